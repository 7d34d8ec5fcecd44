-- What queries hand back of an index that was accepted.
-- Assumes nothing.
use mathlib.Core.Path.{◌≡◌, refl, ap, ap₂, ◌∙◌}
use mathlib.Core.Bool.{true, false, not}
use mathlib.Core.List.{List, [], ◌∷◌, ◌++◌, map, flatten}
use Prim.Native.Nat.{ℕ, suc, ◌+◌, ◌-◌, ◌*◌, ◌≤◌, ◌<◌}
use native.Mathlib.Omega.{arith}
use lib.Dec.{leb}
use lib.ListN.{length, get_or, take, drop}
use borrow.Author.Tests.{le-leb, lt-leb, ne_eqb}
use Rattle.game.specs.Table.{tabulate}
use Rattle.game.specs.Edge.{Edge, ◌─◌, edges}
use Rattle.game.specs.Graph.{Proper}
use Rattle.game.proofs.Proper.{proper-head, proper-right}
use Rattle.game.proofs.Tables.{tabulate-length, tabulate-entry, tabulate-ext}
use Rattle.refusal.specs.Refusal.{given, first, bad_count}
use Rattle.refusal.specs.Verdict.{accepted}
use Rattle.refusal.specs.Outcome.{decided}
use Rattle.refusal.proofs.First.{pass, stop, first-end, unless-accepted}
use Rattle.refusal.proofs.Ends.{accepted-none}
use Rattle.index.specs.Index.{Index, vertices, run, runs, index_of}
use Rattle.index.specs.Build.{index_refusal, index_outcome}
use Rattle.index.proofs.Laid.{sizes-sum}
use Rattle.index.proofs.Accepted.{Accepted, index-accepted}
use Rattle.query.specs.Query.{rises, query_refusal, Answered, answered, query_outcome}
use Rattle.query.proofs.Accepted.{place-refused, place-accepted}
use Rattle.query.specs.Neighbours.{Indexed}
use Rattle.query.proofs.Runs.{two_runs}
use Rattle.query.proofs.Offsets.{offsets-length, offsets-rise, offsets-part, sizes-length, flatten-length}

-- The index of a list of edges on n vertices, as a query finds it.
module _ (n : ℕ) (es : List Edge) where
  starts-length : length (index_of n es).starts ≡ suc n
  unfolding index_of runs
  starts-length = offsets-length 0 (map length (runs n es)) ∙ ap suc (sizes-length (runs n es) ∙ tabulate-length n (run es))

  index-vertices : vertices (index_of n es) ≡ n
  unfolding vertices
  index-vertices = omega (arith, starts-length)

  index-rises : rises (length (index_of n es).neighbours) (index_of n es).starts ≡ true
  unfolding index_of
  index-rises = rw (flatten-length (runs n es)) (offsets-rise (map length (runs n es)))

  -- the tests before that of the rank
  query-tests : bad_count n ≡ false → (v : ℕ) → query_refusal (index_of n es) v ≡ first (given (leb n v) 4 ∷ [])
  unfolding query_refusal
  query-tests g v =
      pass _ _ (ne_eqb (length (index_of n es).starts) 0 (λ e. absurd (omega (arith, starts-length))))
      ∙ pass _ _ (rw index-vertices g)
      ∙ pass _ _ (ap not index-rises)
      ∙ rw index-vertices refl

  module _ (g : bad_count n ≡ false) (v : ℕ) where
    query-none : v < n → query_refusal (index_of n es) v ≡ 0
    query-none h = query-tests g v ∙ pass _ _ (lt-leb n v h) ∙ first-end

    query-four : n ≤ v → query_refusal (index_of n es) v ≡ 4
    query-four h = query-tests g v ∙ stop _ _ (le-leb n v h)

    index-answers : v < n → query_outcome (index_of n es) v ≡ answered (run es v) 0
    unfolding query_outcome index_of runs
    index-answers h =
        rw (← place-accepted (index_of n es) v refl (query-none h)) (ap₂ answered here (query-none h))
      where
        here : take (get_or (index_of n es).starts (v + 1) 0 - get_or (index_of n es).starts v 0) (drop (get_or (index_of n es).starts v 0) (index_of n es).neighbours) ≡ run es v
        here =
            offsets-part (runs n es) v (omega (arith, tabulate-length n (run es))) ∙ tabulate-entry n (run es) v [] h

    index-no-vertex : n ≤ v → query_outcome (index_of n es) v ≡ answered [] 4
    unfolding query_outcome
    index-no-vertex h =
        rw (← place-refused (index_of n es) v refl (λ z. absurd (omega (arith, query-four h)))) (ap (answered []) (query-four h))

  index-laid : bad_count n ≡ false → flatten (tabulate n (λ (v : ℕ). (query_outcome (index_of n es) v).part)) ≡ (index_of n es).neighbours
  unfolding index_of runs
  index-laid g =
      ap flatten (tabulate-ext n (λ (v : ℕ). (query_outcome (index_of n es) v).part) (run es) (λ v h. ap (λ (q : Answered). q.part) (index-answers g v h)))

  index-entries : Proper n es → length (index_of n es).neighbours ≡ 2 * length es
  unfolding index_of
  index-entries p = flatten-length (runs n es) ∙ sizes-sum p

-- After an accepted index, of tables that held anything.
pub index-queries : (t : Index) (old added : List ℕ) → (index_outcome t old added).verdict ≡ accepted tt → Indexed (index_outcome t old added).tables (edges old ++ edges added)
unfolding index_outcome decided
index-queries t old added e =
    let z : index_refusal t old added ≡ 0 = accepted-none _ _ e in
    let n : ℕ = vertices t in
    let es : List Edge = edges old ++ edges added in
    let sure : Accepted t old added = index-accepted t old added z in
    let k : vertices (index_of n es) ≡ n = index-vertices n es in
    rw (unless-accepted (index_refusal t old added) t (index_of n es) z)
    (record {
      answers = λ v h. index-answers n es sure.count v (rw k at h);
      no_vertex = λ v h. index-no-vertex n es sure.count v (rw k at h);
      twice = λ before a b behind q. two_runs before a b behind (proper-head (proper-right before ((a ─ b) ∷ behind) (rw q at sure.lists.proper))).2;
      laid = rw k (index-laid n es sure.count);
      entries = index-entries n es sure.lists.proper;
    })
