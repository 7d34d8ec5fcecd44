-- Where the paths of two vertices meet tells whether they are related, and if they are not, what is above both.
-- Assumes nothing.
use mathlib.Core.Path.{◌≡◌, sym, subst, ◌∙◌}
use mathlib.Core.Logic.{◌≢◌, ⊎_elim}
use mathlib.Core.Bool.{true, false, ◌||◌, true≢false}
use mathlib.Core.List.{List, Memᴰ}
use Prim.Native.Nat.{ℕ, suc, ◌≤◌, ◌<◌}
use native.Mathlib.Omega.{arith}
use lib.Dec.{eqb}
use lib.ListN.{length}
use borrow.Author.Tests.{eqb-true, eq-eqb}
use Rattle.game.specs.Table.{member}
use Rattle.game.specs.Game.{absent}
use Rattle.game.specs.Tree.{ancestors, under}
use Rattle.game.proofs.Bools.{or_cases, or_left, or_right, bool_iff}
use Rattle.game.proofs.Tables.{member-in, in-member}
use Rattle.game.proofs.Lists.{Rising, filtered-in, in-filtered, rising-filtered, rising-ext}
use Rattle.game.proofs.Climbs.{Climbs, top, climbs-le}
use Rattle.game.proofs.Ancestors.{climbs-ancestor, ancestor-climbs, under-climbs, climbs-under}
use Rattle.game.proofs.Subtree.{climbs-trans, climbs-antisym, climbs-inside}
use Rattle.game.proofs.Paths.{ancestors-rising}
use Rattle.ancestry.specs.Common.{common_ancestors, related}
use Rattle.ancestry.specs.Steps.{Walkable, path, FirstCommon}
use Rattle.ancestry.proofs.Walk.{walkable-sound, walkable-few}
use Rattle.ancestry.proofs.Paths.{path-rising, climbs-path, path-climbs}

module _ {p : List ℕ} (w : Walkable p) where
  -- who is related climbs to the other
  pub related-climbs : {a b : ℕ} {A : Type 0} → related p a b ≡ true → (Climbs p a b → A) → (Climbs p b a → A) → A
  unfolding related
  related-climbs {a} {b} e f g =
      ⊎_elim (λ t. f (under-climbs (walkable-few w) t)) (λ t. g (under-climbs (walkable-few w) t)) (or_cases (under p a b) (under p b a) e)

  pub climbs-related : {a b : ℕ} → Climbs p a b → related p a b ≡ true
  unfolding related
  climbs-related {a} {b} k = or_left (under p a b) (under p b a) (climbs-under (walkable-sound w) k)

  pub climbed-related : {a b : ℕ} → Climbs p b a → related p a b ≡ true
  unfolding related
  climbed-related {a} {b} k = or_right (under p a b) (under p b a) (climbs-under (walkable-sound w) k)

-- the common ancestors are the ancestors of both
pub common-both : (p : List ℕ) (a b : ℕ) {y : ℕ} → Memᴰ y (common_ancestors p a b) → Memᴰ y (ancestors p a) × Memᴰ y (ancestors p b)
unfolding common_ancestors
common-both p a b {y} m = let f = filtered-in (λ (z : ℕ). member z (ancestors p b)) (ancestors p a) m in (f.0, member-in y (ancestors p b) f.1)

pub both-common : (p : List ℕ) (a b : ℕ) {y : ℕ} → Memᴰ y (ancestors p a) → Memᴰ y (ancestors p b) → Memᴰ y (common_ancestors p a b)
unfolding common_ancestors
both-common p a b m n = in-filtered (λ (z : ℕ). member z (ancestors p b)) m (in-member n)

-- they rise
pub common-rising : {p : List ℕ} → Walkable p → (a b : ℕ) → Rising (suc a) (common_ancestors p a b)
unfolding common_ancestors
common-rising {p} w a b = rising-filtered (λ (z : ℕ). member z (ancestors p b)) (ancestors-rising (walkable-sound w) (walkable-few w) a)

-- what both of two vertices climb to that are not related
pub climbs-common : {p : List ℕ} → Walkable p → (a b : ℕ) → related p a b ≡ false → {y : ℕ} → Climbs p y a → Climbs p y b → Memᴰ y (common_ancestors p a b)
climbs-common {p} w a b apart {y} i j =
    both-common p a b
    (climbs-ancestor (walkable-sound w) i (λ (e : a ≡ y). true≢false (sym (climbs-related w (rw (← e) at j)) ∙ apart)))
    (climbs-ancestor (walkable-sound w) j (λ (e : b ≡ y). true≢false (sym (climbed-related w (rw (← e) at i)) ∙ apart)))

module _ {p : List ℕ} (w : Walkable p) {a b r : ℕ} (m : FirstCommon p a b r) (ha : a < length p) (hb : b < length p) where
  -- a vertex is not absent
  there : {x : ℕ} → x < length p → x ≢ absent
  there h = omega (arith, w.few)

  -- what both climb to, and one of them is: they meet there
  meets_at : {x : ℕ} → x < length p → Climbs p x a → Climbs p x b → (r ≢ absent → Climbs p r x) → r ≡ x
  meets_at {x} h i j f =
      let k : Climbs p x r = m.least x i j in
      let l : r ≤ x = climbs-le (walkable-sound w) k in
      climbs-antisym (walkable-sound w) (walkable-few w) k (f (there (omega arith)))

  pub related-at : related p a b ≡ (eqb r a || eqb r b)
  related-at =
      bool_iff (related p a b) (eqb r a || eqb r b)
      (λ e.
      related-climbs w e
      (λ k. or_left (eqb r a) (eqb r b) (eq-eqb r a (meets_at ha top k (λ d. (m.both d).0))))
      (λ k. or_right (eqb r a) (eqb r b) (eq-eqb r b (meets_at hb k top (λ d. (m.both d).1)))))
      (λ e.
      ⊎_elim
      (λ t. let q : r ≡ a = eqb-true r a t in climbs-related w (subst (λ (x : ℕ). Climbs p x b) q (m.both (λ z. there ha (sym q ∙ z))).1))
      (λ t. let q : r ≡ b = eqb-true r b t in climbed-related w (subst (λ (x : ℕ). Climbs p x a) q (m.both (λ z. there hb (sym q ∙ z))).0))
      (or_cases (eqb r a) (eqb r b) e))

  -- the common ancestors of two vertices that are not related are the path from where they meet
  pub common-path : related p a b ≡ false → common_ancestors p a b ≡ path p r
  common-path apart = rising-ext (common-rising w a b) (path-rising (walkable-sound w) (walkable-few w) r) forward backward
    where
      forward : (z : ℕ) → Memᴰ z (common_ancestors p a b) → Memᴰ z (path p r)
      forward z i =
          let f = common-both p a b i in
          let k : Climbs p z a = ancestor-climbs (walkable-few w) f.0 in
          let l : Climbs p z r = m.least z k (ancestor-climbs (walkable-few w) f.1) in
          let h : r ≤ z = climbs-le (walkable-sound w) l in
          let n : z < length p = climbs-inside (walkable-sound w) k ha in
          climbs-path (walkable-sound w) (walkable-few w) (m.inside (there (omega arith))) l

      backward : (z : ℕ) → Memᴰ z (path p r) → Memᴰ z (common_ancestors p a b)
      backward z i =
          let f = path-climbs (walkable-sound w) (walkable-few w) i in
          let k = m.both (there f.0) in
          climbs-common w a b apart (climbs-trans k.0 f.1) (climbs-trans k.1 f.1)
