-- The links of a table of parents: one edge from each rank to the parent that it names, and no other; what a store in the table
-- does to them; and that the links of a sound table are a proper graph.
-- Assumes nothing.
use mathlib.Core.Path.{◌≡◌, refl, sym, ap, subst, ◌∙◌}
use mathlib.Core.Logic.{◌≢◌, ◌⊎◌, inl, inr, ⊎_elim, by_cases}
use mathlib.Core.Bool.{Bool, true, false, cond}
use mathlib.Core.List.Memᴰ
use mathlib.Core.List.{List, [], ◌∷◌, Memᴰ}
use Prim.Native.Nat.{ℕ, zero, suc, ◌+◌, ◌<◌, suc-le-suc}
use native.Mathlib.Nat.{not-suc-le-zero, le_of_suc-le-suc, zero-lt-suc, zero-add, suc-add, add-zero, add-suc}
use native.Mathlib.Decide.{ℕ_discrete, dec_lt}
use native.Mathlib.Omega.{arith}
use lib.Dec.{eqb}
use lib.ListN.{length, get_or, set, replicate, length-set, get_or-eq_default}
use lib.Seq.{get_or-set_same, get_or-set_other}
use borrow.Author.Tests.{eqb-false, ne_eqb}
use Rattle.game.specs.Edge.{Edge, ◌─◌}
use Rattle.game.specs.Game.{absent}
use Rattle.game.specs.Tree.{links_from, links}
use Rattle.game.specs.Graph.{Linked, forth, back, Proper}
use Rattle.game.proofs.Proper.{edge-left, edge-right}
use Rattle.game.proofs.Sound.{Sound, sound-parent}

from-link : (i : ℕ) (p : List ℕ) (k : ℕ) → k < length p → get_or p k absent ≢ absent
    → Memᴰ ((i + k) ─ get_or p k absent) (links_from i p)
unfolding links_from
from-link i [] k h d = absurd (not-suc-le-zero h)
from-link i (q ∷ p) zero h d = rw (ne_eqb q absent d, add-zero) (Memᴰ.head refl)
from-link i (q ∷ p) (suc k) h d = rw (add-suc, ← suc-add) (keep (eqb q absent) (from-link (suc i) p k (le_of_suc-le-suc h) d))
  where
    keep : (t : Bool) {e : Edge} → Memᴰ e (links_from (suc i) p)
        → Memᴰ e (cond t (links_from (suc i) p) ((i ─ q) ∷ links_from (suc i) p))
    keep true m = m
    keep false m = Memᴰ.tail m

-- the entry k places on from rank i, which is x's, names y
record Names (i : ℕ) (p : List ℕ) (x y : ℕ) : Type 0 where
  k : ℕ
  place : i + k ≡ x
  inside : k < length p
  entry : get_or p k absent ≡ y
  there : y ≢ absent

names-later : {i x y : ℕ} (q : ℕ) {p : List ℕ} → Names (suc i) p x y → Names i (q ∷ p) x y
names-later {i} q n =
    record {
      k = suc n.k;
      place = add-suc i n.k ∙ sym (suc-add i n.k) ∙ n.place;
      inside = suc-le-suc n.inside;
      entry = n.entry;
      there = n.there;
    }

from-inv : (i : ℕ) (p : List ℕ) {x y : ℕ} → Memᴰ (x ─ y) (links_from i p) → Names i p x y
unfolding links_from
from-inv i [] m = absurd (Memᴰ.not-nil m)
from-inv i (q ∷ p) {x} {y} m = go (eqb q absent) refl (λ m'. names-later q (from-inv (suc i) p m')) m
  where
    head : eqb q absent ≡ false → (x ─ y) ≡ (i ─ q) → Names i (q ∷ p) x y
    head t e =
        record {
          k = 0;
          place = add-zero i ∙ sym (edge-left e);
          inside = zero-lt-suc (length p);
          entry = sym (edge-right e);
          there = λ a. eqb-false q absent t (sym (edge-right e) ∙ a);
        }

    go : (t : Bool) → eqb q absent ≡ t → (Memᴰ (x ─ y) (links_from (suc i) p) → Names i (q ∷ p) x y)
        → Memᴰ (x ─ y) (cond t (links_from (suc i) p) ((i ─ q) ∷ links_from (suc i) p)) → Names i (q ∷ p) x y
    go true t later m = later m
    go false t later m = ⊎_elim (head t) later (Memᴰ.cases_cons m)

-- a rank that names a parent is linked to it
pub link-of : (p : List ℕ) {x y : ℕ} → x < length p → get_or p x absent ≡ y → y ≢ absent → Memᴰ (x ─ y) (links p)
unfolding links
link-of p {x} {y} h e d =
    subst (λ (z : ℕ). Memᴰ (x ─ z) (links_from 0 p)) e (rw zero-add at (from-link 0 p x h (λ a. d (sym e ∙ a))))

-- a link goes from a rank to the parent that it names
pub link-inv : (p : List ℕ) {x y : ℕ} → Memᴰ (x ─ y) (links p) → (x < length p) × (get_or p x absent ≡ y) × (y ≢ absent)
unfolding links
link-inv p {x} {y} m =
    let n : Names 0 p x y = from-inv 0 p m in
    let e : n.k ≡ x = sym (zero-add n.k) ∙ n.place in
    (rw e at n.inside, rw e at n.entry, n.there)

-- no entry, no link
pub links-none : (n : ℕ) → links (replicate n absent) ≡ []
unfolding links
links-none n = from-none 0 n
  where
    from-none : (i n : ℕ) → links_from i (replicate n absent) ≡ []
    from-none i zero = refl
    from-none i (suc n) = from-none (suc i) n

-- only a rank of the table names a parent
pub parent-inside : (p : List ℕ) (x : ℕ) → get_or p x absent ≢ absent → x < length p
parent-inside p x d = by_cases (dec_lt x (length p)) (λ h. h) (λ o. absurd (d (get_or-eq_default p absent (omega arith))))

-- a link of a sound table goes up, to a rank of the table
pub link_up : {p : List ℕ} → Sound p → {x y : ℕ} → Memᴰ (x ─ y) (links p) → (x < y) × (y < length p)
link_up {p} s {x} {y} m =
    let l : (x < length p) × (get_or p x absent ≡ y) × (y ≢ absent) = link-inv p m in
    rw l.1 at (sound-parent s x l.0 (λ a. l.2 (sym l.1 ∙ a)))

-- the links of a sound table are a proper graph
pub links-proper : {p : List ℕ} → Sound p → Proper (length p) (links p)
links-proper {p} s = record { each = ends }
  where
    ends : (a b : ℕ) → Linked (links p) a b → (a < length p) × (b < length p) × (a ≢ b)
    ends a b (forth m) = let u = link_up s m in (omega arith, omega arith, omega arith)
    ends a b (back m) = let u = link_up s m in (omega arith, omega arith, omega arith)

-- a store keeps the links of all other ranks
pub link-set-other : (p : List ℕ) (x y : ℕ) {a b : ℕ} → a ≢ x
    → Memᴰ (a ─ b) (links p) → Memᴰ (a ─ b) (links (set p x y))
link-set-other p x y {a} d m =
    let l = link-inv p m in
    link-of (set p x y) (rw length-set l.0) (get_or-set_other p x a y absent d ∙ l.1) l.2

-- a store where there was no parent keeps all links
pub link-set-old : (p : List ℕ) (x y : ℕ) → get_or p x absent ≡ absent → {a b : ℕ}
    → Memᴰ (a ─ b) (links p) → Memᴰ (a ─ b) (links (set p x y))
link-set-old p x y e {a} m =
    let l = link-inv p m in
    link-set-other p x y (λ (q : a ≡ x). l.2 (sym l.1 ∙ ap (λ (z : ℕ). get_or p z absent) q ∙ e)) m

-- a store makes its own link
pub link-set-new : (p : List ℕ) {x y : ℕ} → x < length p → y ≢ absent → Memᴰ (x ─ y) (links (set p x y))
link-set-new p {x} {y} h d = link-of (set p x y) (rw length-set h) (get_or-set_same p x y absent h) d

-- a store makes no other link
pub link-set-inv : (p : List ℕ) (x y : ℕ) {a b : ℕ} → Memᴰ (a ─ b) (links (set p x y))
    → Memᴰ (a ─ b) (links p) ⊎ ((a ≡ x) × (b ≡ y))
link-set-inv p x y {a} {b} m = by_cases (ℕ_discrete a x) here elsewhere
  where
    l : (a < length (set p x y)) × (get_or (set p x y) a absent ≡ b) × (b ≢ absent)
    l = link-inv (set p x y) m

    h : a < length p
    h = rw length-set at l.0

    here : a ≡ x → Memᴰ (a ─ b) (links p) ⊎ ((a ≡ x) × (b ≡ y))
    here e = inr (e, sym l.1 ∙ ap (λ (z : ℕ). get_or (set p x y) z absent) e ∙ get_or-set_same p x y absent (rw e at h))

    elsewhere : a ≢ x → Memᴰ (a ─ b) (links p) ⊎ ((a ≡ x) × (b ≡ y))
    elsewhere d = inl (link-of p h (sym (get_or-set_other p x a y absent d) ∙ l.1) l.2)
