-- What is known of an index and a rank where a query is not refused: the run lies in the table of neighbours.
-- Assumes nothing.
use mathlib.Core.Path.{◌≡◌, refl, ap, ◌∙◌}
use mathlib.Core.Logic.{by_cases}
use Prim.Native.Nat.{ℕ, ◌+◌, ◌-◌, ◌≤◌, ◌<◌}
use native.Mathlib.Decide.{ℕ_discrete}
use native.Mathlib.Omega.{arith}
use lib.ListN.{length, get_or, take, drop}
use borrow.Author.Tests.{not-false, leb-false}
use Rattle.std.specs.Prelude.{Result}
use Rattle.std.specs.Result.{IsErrAnd}
use Rattle.std.proofs.lemmas.Result.{err_from_is_err_and}
use Rattle.refusal.specs.Numbers.{number_of}
use Rattle.refusal.specs.declared.kinds.Refusal.{Refusal}
use Rattle.refusal.proofs.Numbers.{number-positive}
use Rattle.refusal.proofs.First.{first-none, given-none, unless-refused, unless-accepted}
use Rattle.index.specs.Index.{Index, vertices}
use Rattle.query.specs.declared.Run.{Run}
use Rattle.query.specs.Query.{query_refusal, Place, place_of, query_place, place, answered, query_outcome}
use Rattle.query.proofs.Rising.{rises-entries}

pub record Queryable (t : Index) (v : ℕ) : Type 0 where
  pub inside : v + 1 < length t.starts
  pub order : get_or t.starts v 0 ≤ get_or t.starts (v + 1) 0
  pub room : get_or t.starts (v + 1) 0 ≤ length t.neighbours

pub query-accepted : (t : Index) (v : ℕ) → query_refusal t v ≡ 0 → Queryable t v
unfolding query_refusal vertices
query-accepted t v z =
    let a = first-none _ _ z in
    let b = first-none _ _ a.1 in
    let c = first-none _ _ b.1 in
    let d = first-none _ _ c.1 in
    let below : v + 1 < length t.starts = omega (arith, leb-false (vertices t) v (given-none _ _ d.0)) in
    let (order, room) = rises-entries _ _ (not-false _ (given-none _ _ c.0)) v below in
    record { inside = below; order = order; room = room }

-- Where the part that is handed back stands: nowhere, if the query is refused, else where the run does.
module _ (t : Index) (v : ℕ) {k : ℕ} (e : k ≡ query_refusal t v) where
  pub place-refused : (k ≡ 0 → ⊥) → place_of k 0 0 ≡ query_place t v
  unfolding query_place
  place-refused d =
      rw (← e, unless-refused k 0 (get_or t.starts v 0) d, unless-refused k 0 (get_or t.starts (v + 1) 0 - get_or t.starts v 0) d) refl

  pub place-accepted : k ≡ 0 → place_of k (get_or t.starts v 0) (get_or t.starts (v + 1) 0 - get_or t.starts v 0) ≡ query_place t v
  unfolding query_place
  place-accepted z =
      rw (← e, unless-accepted k 0 (get_or t.starts v 0) z, unless-accepted k 0 (get_or t.starts (v + 1) 0 - get_or t.starts v 0) z) refl

-- where a `?` hands on a refusal, it is nowhere
pub place-handed : (t : Index) (v : ℕ) (r : Result Run Refusal) (e : Refusal) → IsErrAnd r (λ y. y ≡ e) → number_of e ≡ query_refusal t v → place r ≡ query_place t v
place-handed t v r e q h = let p = err_from_is_err_and r q in rw p.1 (place-refused t v (ap number_of p.2 ∙ h) (number-positive _))

-- it lies in the table of neighbours
pub place-room : (t : Index) (v : ℕ) → (query_place t v).first + (query_place t v).count ≤ length t.neighbours
place-room t v =
    by_cases (ℕ_discrete (query_refusal t v) 0)
    (λ (z : query_refusal t v ≡ 0). let q = query-accepted t v z in rw (← place-accepted t v refl z) (omega (arith, q.order, q.room)))
    (λ (d : query_refusal t v ≡ 0 → ⊥). rw (← place-refused t v refl d) (omega arith))

-- The part that is handed back, by where it stands.
module _ (t : Index) (v : ℕ) (p : Place) (e : p ≡ query_place t v) where
  pub part_room : p.first + p.count ≤ length t.neighbours
  part_room = rw e (place-room t v)

  pub part-answers : answered (take (p.first + p.count - p.first) (drop p.first t.neighbours)) p.number ≡ query_outcome t v
  unfolding query_outcome
  part-answers =
      let d : p.first + p.count - p.first ≡ p.count = omega arith in
      rw (d, e) refl
