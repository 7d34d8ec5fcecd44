-- Ancestors and subtrees, seen through walks: y is above x if it is higher and joined to x at height y, and u is under x if it is
-- joined to x at height x. In the forest of a graph the two ends of an edge stand one above the other.
-- Assumes nothing.
use mathlib.Core.Path.{◌≡◌, refl, sym}
use mathlib.Core.Logic.{◌≢◌, ◌⊎◌, inl, inr, ⊎_elim}
use mathlib.Core.Bool.{Bool, true, false, cond}
use mathlib.Core.List.Memᴰ
use mathlib.Core.List.{List, [], ◌∷◌, Memᴰ}
use Prim.Native.Nat.{ℕ, zero, suc, ◌+◌, ◌≤◌, ◌<◌}
use native.Mathlib.Nat.{le_refl, le_of_lt, lt_of_lt_of_le}
use native.Mathlib.Omega.{arith}
use lib.Dec.{eqb, ltb}
use lib.ListN.{length, get_or}
use borrow.Author.Tests.{eqb-true, eq-eqb, ltb-true, lt-ltb}
use Rattle.game.specs.Table.{member}
use Rattle.game.specs.Edge.{Edge, ◌─◌}
use Rattle.game.specs.Game.{absent, forest}
use Rattle.game.specs.Tree.{links, climb, ancestors, under}
use Rattle.game.proofs.Conn.{Conn, conn-step, within-conn}
use Rattle.game.specs.Graph.{Linked, Proper}
use Rattle.game.proofs.Bools.{or_cases, or_left, or_right}
use Rattle.game.proofs.Tables.{member-in, in-member}
use Rattle.game.proofs.Sound.{Sound}
use Rattle.game.proofs.Links.{link-of, link-inv, link_up, parent-inside}
use Rattle.game.proofs.Climbs.{Climbs, top, up, climbs-le, climbs-conn, conn-climbs}
use Rattle.game.proofs.Forest.{forest-length, forest-sound, forest-within, within-forest}

-- y is reached from x by one or more parents
pub record Above (p : List ℕ) (x y : ℕ) : Type 0 where
  pub next : ℕ
  pub link : Memᴰ (x ─ next) (links p)
  pub rest : Climbs p y next

climbs-cases : {p : List ℕ} {x y : ℕ} → Climbs p y x → (x ≡ y) ⊎ Above p x y
climbs-cases top = inl refl
climbs-cases (up {c = c} m k) = inr (record { next = c; link = m; rest = k })

-- what a climb of any number of steps meets is above
climb-above : {p : List ℕ} → length p ≤ absent → (k : ℕ) {x y : ℕ} → Memᴰ y (climb k p x) → Above p x y
unfolding climb
climb-above u zero m = absurd (Memᴰ.not-nil m)
climb-above {p} u (suc k) {x} {y} m = met (ltb q (length p)) refl (λ r. climb-above u k r) m
  where
    q : ℕ
    q = get_or p x absent

    met : (t : Bool) → ltb q (length p) ≡ t → (Memᴰ y (climb k p q) → Above p q y)
        → Memᴰ y (cond t (q ∷ climb k p q) []) → Above p x y
    met false t later m = absurd (Memᴰ.not-nil m)
    met true t later m =
        let h : q < length p = ltb-true q (length p) t in
        let d : q ≢ absent = omega arith in
        let rest : Climbs p y q =
        ⊎_elim (λ (e : y ≡ q). rw e top) (λ r. up (later r).link (later r).rest) (Memᴰ.cases_cons m) in
        record { next = q; link = link-of p (parent-inside p x d) refl d; rest = rest }

-- a climb of enough steps meets all that is above
above-climb : {p : List ℕ} → Sound p → (k : ℕ) {x y : ℕ} → length p ≤ x + k → Above p x y → Memᴰ y (climb k p x)
unfolding climb
above-climb {p} s zero f a = absurd (omega (arith, (link-inv p a.link).0))
above-climb {p} s (suc k) f a =
    let (h, b) = link_up s a.link in
    rw ((link-inv p a.link).1, lt-ltb a.next (length p) b)
    (⊎_elim (λ e. Memᴰ.head (sym e)) (λ c. Memᴰ.tail (above-climb s k (omega arith) c)) (climbs-cases a.rest))

-- an ancestor is above
pub ancestor-above : {p : List ℕ} → length p ≤ absent → {x y : ℕ} → Memᴰ y (ancestors p x) → Above p x y
unfolding ancestors
ancestor-above {p} u m = climb-above u (length p) m

-- what is above is an ancestor
pub above-ancestor : {p : List ℕ} → Sound p → {x y : ℕ} → Above p x y → Memᴰ y (ancestors p x)
unfolding ancestors
above-ancestor {p} s a = above-climb s (length p) (omega arith) a

-- who is reached by climbing is an ancestor
pub climbs-ancestor : {p : List ℕ} → Sound p → {x y : ℕ} → Climbs p y x → x ≢ y → Memᴰ y (ancestors p x)
climbs-ancestor s k d = ⊎_elim (λ e. absurd (d e)) (above-ancestor s) (climbs-cases k)

-- an ancestor is reached by climbing
pub ancestor-climbs : {p : List ℕ} → length p ≤ absent → {x y : ℕ} → Memᴰ y (ancestors p x) → Climbs p y x
ancestor-climbs u m = let a = ancestor-above u m in up a.link a.rest

-- what is above is higher and joined at its own height
pub above-conn : {p : List ℕ} → Sound p → {x y : ℕ} → Above p x y → (x < y) × Conn (links p) y x y
above-conn s a = (lt_of_lt_of_le (link_up s a.link).0 (climbs-le s a.rest), climbs-conn s (up a.link a.rest))

-- what is higher and joined at its own height is above
pub conn-above : {p : List ℕ} → Sound p → {x y : ℕ} → x < y → Conn (links p) y x y → Above p x y
conn-above s h w = ⊎_elim (λ e. absurd (omega arith)) (λ a. a) (climbs-cases (conn-climbs s w))

module _ {n : ℕ} {g : List Edge} (u : n ≤ absent) (p : Proper n g) where
  -- the ancestors in the forest of a graph are what is higher and joined at its own height
  pub forest-ancestor : {x y : ℕ} → x < y → Conn g y x y → Memᴰ y (ancestors (forest n g) x)
  forest-ancestor h w = above-ancestor (forest-sound p) (conn-above (forest-sound p) h (within-conn (within-forest u p) w))

  pub ancestor-forest : {x y : ℕ} → Memᴰ y (ancestors (forest n g) x) → (x < y) × Conn g y x y
  ancestor-forest m =
      let a = above-conn (forest-sound p) (ancestor-above (rw forest-length u) m) in
      (a.0, within-conn (forest-within n g) a.1)

  -- the two ends of an edge stand one above the other
  pub edge-ends : {a b : ℕ} → Linked g a b → a < b → member b (ancestors (forest n g) a) ≡ true
  edge-ends {a} {b} l h = in-member (forest-ancestor h (conn-step l (le_of_lt h) (le_refl b)))

-- who passes the test of standing under x climbs to x
pub under-climbs : {p : List ℕ} → length p ≤ absent → {x u : ℕ} → under p x u ≡ true → Climbs p x u
unfolding under
under-climbs {p} n {x} {u} e =
    ⊎_elim (λ t. rw (eqb-true u x t) top) (λ m. ancestor-climbs n (member-in x (ancestors p u) m))
    (or_cases (eqb u x) (member x (ancestors p u)) e)

-- who climbs to x passes the test of standing under x
pub climbs-under : {p : List ℕ} → Sound p → {x u : ℕ} → Climbs p x u → under p x u ≡ true
unfolding under
climbs-under {p} s {x} {u} k =
    ⊎_elim
    (λ e. or_left (eqb u x) (member x (ancestors p u)) (eq-eqb u x e))
    (λ a. or_right (eqb u x) (member x (ancestors p u)) (in-member (above-ancestor s a)))
    (climbs-cases k)
