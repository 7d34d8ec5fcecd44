-- The blocks, laid together again by the calls, are the net: their ties' nets, joined in any order, have its parents and its weights,
-- and no call is refused. It rests on the law of joined trees, and on nothing of how the blocks were chosen.
-- Assumes nothing.
use mathlib.Core.Path.{◌≡◌, refl, sym, ap, ap₂, subst, ◌∙◌}
use mathlib.Core.Logic.{⊎_elim}
use mathlib.Core.Bool.{Bool, true, ◌&&◌}
use mathlib.Core.List.Memᴰ
use mathlib.Core.List.{List, [], ◌∷◌, map, Memᴰ, Permᴰ}
use Prim.Native.Nat.{ℕ, zero, suc, ◌+◌, ◌≤◌, ◌<◌}
use native.Mathlib.Nat.{min-le_left}
use native.Mathlib.Omega.{arith}
use lib.Dec.{eqb}
use lib.ListN.{length, get_or}
use Rattle.game.specs.Table.{tabulate}
use Rattle.game.specs.Edge.{Edge, ◌─◌, lower, Tie, tie_of, without_rows, edges}
use Rattle.game.specs.Graph.{Proper}
use Rattle.game.specs.Game.{forest}
use Rattle.game.specs.Net.{Net, owner, weight, charges, total, net_of}
use Rattle.game.proofs.Proper.{proper-nil, proper-append}
use Rattle.game.proofs.Edges.{edges-ties, rowless-append}
use Rattle.game.proofs.Weights.{weights-entry, weights-charges, charges-append, charges-empty}
use Rattle.game.proofs.Forest.{forest-length}
use Rattle.refusal.specs.Limits.{max_vertices, max_total, max_edges}
use Rattle.refusal.specs.Refusal.{unless, fault, first_fault}
use Rattle.refusal.specs.Verdict.{is_accepted, judged}
use Rattle.refusal.specs.Outcome.{decided}
use Rattle.refusal.proofs.Fault.{faultless, faultless-cons, faultless-proper}
use Rattle.growth.specs.Work.{NetWithWork, with_work, bad_work}
use Rattle.start.specs.Start.{start_refusal, start_outcome}
use Rattle.add_refusal.specs.Refused.{add_refusal}
use Rattle.add.specs.Add.{grown, add_outcome}
use Rattle.join_refusal.specs.Refused.{join_refusal}
use Rattle.join.specs.Join.{join_outcome}
use Rattle.join_refusal.proofs.Accepted.{Joinable}
use Rattle.add_refusal.proofs.Accepted.{Addable}
use Rattle.growth.proofs.Whole.{room}
use Rattle.forest.proofs.Passes.{start-passes, add-passes, join-passes}
use Rattle.forest.proofs.Promise.{net-valid, valid-whole}
use Rattle.forest.proofs.Laws.{grown-net, joined-net}
use Rattle.divide.specs.Divide.{divided}
use Rattle.cut.specs.Steps.{Divisible}
use Rattle.cut.proofs.Lists.{stretch, stretch-in, sum-agree}
use Rattle.groups.proofs.Sums.{only, total-filtered, total as sum_over}
use Rattle.divide.proofs.Laws.{block-load}
use Rattle.block_count.specs.BlockCount.{edge_block}
use Rattle.cost.specs.Laid.{ties_of, Lot, LotOf, Lots, none, more, Laid, after, started, grown_lot, laid}
use Rattle.cost.proofs.Dealt.{together, part, part-faultless, part_length, dealt-net, dealt-charges, part-weights}
use Rattle.cost.proofs.Divided.{block-below}

abbrev done-with : Net → Laid
done-with of = record { accepted = true; net = of }

-- a call that passes its tests, after calls that were accepted
after-accepted : {X A : Type 0} (b : Bool) (k : ℕ) (values : X) (was new : A) (net : A → Net) → b ≡ true → k ≡ 0 → after b (decided k values was new) net ≡ done-with (net new)
unfolding after decided judged unless is_accepted
after-accepted b zero values was new net e z = rw e refl
after-accepted b (suc k) values was new net e z = absurd (omega arith)

-- a list that the calls take: it has no fault, and not too many ties
pub record Takes (n : ℕ) (ts : List Tie) : Type 0 where
  pub faultless : first_fault n ts ≡ 0
  pub few : length ts ≤ max_edges

module _ {n : ℕ} (some : 0 < n) (few : n ≤ max_vertices) where
  vertices-of : (ts : List Tie) → length (net_of n ts).parents ≡ n
  unfolding net_of
  vertices-of ts = forest-length n (without_rows ts)

  total_of : (ts : List Tie) → Proper n (without_rows ts) → total (net_of n ts) ≡ charges ts
  unfolding net_of
  total_of ts proper = weights-charges ts proper

  started-net : (tables : Net) → length tables.parents ≡ n → length tables.weights ≡ n → started tables ≡ done-with (net_of n [])
  unfolding started start_outcome
  started-net tables p w =
      after-accepted true (start_refusal tables) _ tables _ (λ (net : Net). net) refl
      (start-passes (record { some = omega (arith, p); few = omega (arith, p); long = w ∙ sym p }))
      ∙ ap (λ (m : ℕ). done-with (net_of m [])) p

  -- a block's own net
  lot-net : (ts : List Tie) {lot : Lot} → Takes n ts → charges ts ≤ max_total → LotOf n ts lot → grown_lot lot ≡ done-with (net_of n ts)
  unfolding grown_lot add_outcome
  lot-net ts {lot} takes light of =
      ap (λ (s : Laid). after s.accepted (add_outcome (with_work s.net lot.adding) lot.list) (λ (g : NetWithWork). g.net)) (started-net lot.tables of.parents of.weights)
      ∙ after-accepted true (add_refusal (with_work (net_of n []) lot.adding) lot.list) _ (with_work (net_of n []) lot.adding) _ (λ (g : NetWithWork). g.net) refl (add-passes addable)
      ∙ ap done-with (ap (grown (net_of n [])) of.reads ∙ grown-net [] ts (omega (arith, few)) (proper-nil n))
    where
      blank : length (net_of n []).parents ≡ n
      blank = vertices-of []

      size : length (edges lot.list) ≡ length ts
      size = edges-ties lot.list ∙ ap length of.reads

      addable : Addable (with_work (net_of n []) lot.adding) lot.list
      addable = record {
        net = valid-whole (net-valid [] some few (proper-nil n) (omega (arith, charges-empty)));
        work = room _ _ lot.adding (ap₂ (λ (a m : ℕ). bad_work a (a + m) lot.adding) blank size ∙ of.adding);
        all = of.whole;
        faultless = ap₂ first_fault blank of.reads ∙ takes.faultless;
        few = omega (arith, size, takes.few);
        light = omega (arith, total_of [] (proper-nil n), charges-empty, ap charges of.reads);
      }

  -- all of them
  lots-net : (lists : List (List Tie)) (lots : List Lot) → Lots n lists lots → ((ts : List Tie) → Memᴰ ts lists → Takes n ts) → charges (together lists) ≤ max_total
      → (tables : Net) → length tables.parents ≡ n → length tables.weights ≡ n → (laid tables lots ≡ done-with (net_of n (together lists))) × Proper n (without_rows (together lists))
  unfolding laid together join_outcome
  lots-net [] [] none takes light tables p w = (started-net tables p w, proper-nil n)
  lots-net [] (lot ∷ lots) x takes light tables p w = elim x [ ]
  lots-net (ts ∷ lists) [] x takes light tables p w = elim x [ ]
  lots-net (ts ∷ lists) (lot ∷ lots) (more of rest) takes light tables p w =
      let sum = charges-append (together lists) ts in
      let own = takes ts (Memᴰ.head refl) in
      let proper = faultless-proper n ts own.faultless in
      let before = lots-net lists lots rest (λ us m. takes us (Memᴰ.tail m)) (omega arith) tables p w in
      let one = before.0 in
      let all = before.1 in
      let other = lot-net ts own (omega arith) of in
      let va = net-valid (together lists) some few all (omega arith) in
      let vb = net-valid ts some few proper (omega arith) in
      let joinable : Joinable (with_work (net_of n (together lists)) lot.joining) (net_of n ts) = record {
        net = valid-whole va;
        second = valid-whole vb;
        same = vertices-of ts ∙ sym (vertices-of (together lists));
        work = room _ _ lot.joining (ap₂ (λ (a b : ℕ). bad_work a (a + b) lot.joining) (vertices-of (together lists)) (vertices-of ts) ∙ of.joining);
        light = omega (arith, total_of (together lists) all, total_of ts proper);
      } in (
        ap₂ (λ (x y : Laid). after (x.accepted && y.accepted) (join_outcome (with_work x.net lot.joining) y.net) (λ (g : NetWithWork). g.net)) one other
            ∙ after-accepted true (join_refusal (with_work (net_of n (together lists)) lot.joining) (net_of n ts)) _ (with_work (net_of n (together lists)) lot.joining) _ (λ (g : NetWithWork). g.net) refl (join-passes joinable)
            ∙ ap done-with (joined-net (together lists) ts (omega (arith, few)) all proper),
        subst (Proper n) (sym (rowless-append (together lists) ts)) (proper-append all proper),
      )

-- the owner of a tie without a fault
owner-below : {n : ℕ} (ts : List Tie) → first_fault n ts ≡ 0 → (t : Tie) → Memᴰ t ts → owner t.edge < n
unfolding owner lower
owner-below [] f t m = absurd (Memᴰ.not-nil m)
owner-below {n} (u ∷ ts) f t m =
    let k = faultless-cons n u ts f in
    ⊎_elim (λ (q : t ≡ u). rw q (below u.edge u.rows k.0)) (owner-below ts k.1 t) (Memᴰ.cases_cons m)
  where
    below : (e : Edge) (rows : ℕ) → fault n (tie_of e rows) ≡ 0 → owner e < n
    below (a ─ b) rows z = omega (arith, (faultless n a b rows z).0, min-le_left a b)

module _ {n : ℕ} (ts : List Tie) (of : Net) (few : n ≤ max_vertices) (takes : Takes n ts) (is : of ≡ net_of n ts) (B k : ℕ) (some : 0 < k) where
  block : List ℕ
  block = (divided of B k).block

  deal : Tie → ℕ
  deal t = edge_block block t.edge

  parents-are : of.parents ≡ forest n (without_rows ts)
  unfolding net_of
  parents-are = ap (λ (x : Net). x.parents) is

  vertices : length of.parents ≡ n
  vertices = ap length parents-are ∙ forest-length n (without_rows ts)

  weight-entry : (x : ℕ) → x < n → get_or of.weights x 0 ≡ weight ts x
  unfolding net_of
  weight-entry x h = ap (λ (y : Net). get_or y.weights x 0) is ∙ weights-entry n ts h

  block-of-below : (t : Tie) → Memᴰ t ts → deal t < k
  unfolding edge_block block deal
  block-of-below t m = block-below of B k some (owner t.edge) (rw vertices (owner-below ts takes.faultless t m))

  -- the calls take each block's ties
  block-takes : (js : List ℕ) (us : List Tie) → Memᴰ us (map (ties_of (divided of B k).block ts) js) → Takes n us
  unfolding ties_of part block deal
  block-takes (j ∷ js) us m =
      ⊎_elim (λ e. subst (Takes n) (sym e) (record { faultless = part-faultless deal n ts takes.faultless j; few = omega (arith, part_length deal ts j, takes.few) }))
      (block-takes js us) (Memᴰ.cases_cons m)
  block-takes [] us m = absurd (Memᴰ.not-nil m)

  -- "laid together again, are the net": the nets of the blocks' ties, joined in any order, are the net
  pub blocks-laid-together : 0 < n → total of ≤ max_total → {js : List ℕ} → Permᴰ js (tabulate k (λ j. j))
      → (tables : Net) → length tables.parents ≡ n → length tables.weights ≡ n → (lots : List Lot) → Lots n (map (ties_of (divided of B k).block ts) js) lots
      → laid tables lots ≡ done-with of
  unfolding tabulate ties_of part block deal
  blocks-laid-together any light {js} order tables p w lots fit =
      (lots-net any few _ lots fit (block-takes js)
      (omega (arith, dealt-charges deal order n ts block-of-below, ap total is, total_of any few ts (faultless-proper n ts takes.faultless))) tables p w).0
      ∙ ap done-with (dealt-net deal order n ts block-of-below ∙ sym is)

  -- the load of a block is what its ties are charged, wherever Divide accepts the limits
  pub block-charges : Divisible of.parents of.weights B → (j : ℕ) → j < k → get_or (divided of B k).block_loads j 0 ≡ charges (ties_of (divided of B k).block ts j)
  unfolding ties_of part block edge_block tabulate deal
  block-charges d j h =
      block-load d k some j h
      ∙ total-filtered (λ x. eqb (get_or block x 0) j) (λ x. get_or of.weights x 0) (stretch 0 (length of.parents))
      ∙ sum-agree (λ x. only (eqb (get_or block x 0) j) (get_or of.weights x 0)) (λ x. only (eqb (get_or block x 0) j) (weight ts x)) (stretch 0 (length of.parents))
      (λ x m. ap (only (eqb (get_or block x 0) j)) (weight-entry x (omega (arith, vertices, (stretch-in 0 (length of.parents) m).1))))
      ∙ ap (λ (m : ℕ). sum_over (stretch 0 m) (λ x. only (eqb (get_or block x 0) j) (weight ts x))) vertices
      ∙ part-weights deal (λ x. get_or block x 0) (λ t. refl) n ts (owner-below ts takes.faultless) j
