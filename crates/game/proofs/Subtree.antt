-- Subtrees by climbing: who climbs to x is under x. Climbs are joined end to end, two from one vertex go one along the other,
-- and two vertices that climb to each other are one.
-- Assumes nothing.
use mathlib.Core.Path.{◌≡◌, refl, sym, subst, ◌∙◌}
use mathlib.Core.Logic.{◌≢◌, ◌⊎◌, inl, inr}
use mathlib.Core.Bool.{true, false}
use mathlib.Core.List.{List, Memᴰ}
use Prim.Native.Nat.{ℕ, ◌≤◌, ◌<◌}
use native.Mathlib.Nat.{le_antisymm}
use native.Mathlib.Omega.{arith}
use lib.Dec.{eqb}
use lib.ListN.{length, get_or}
use borrow.Author.Tests.{eq-eqb}
use Rattle.game.specs.Table.{member}
use Rattle.game.specs.Edge.{◌─◌}
use Rattle.game.specs.Game.{absent}
use Rattle.game.specs.Tree.{links, ancestors, under}
use Rattle.game.proofs.Bools.{or_left, bool_iff, bool_false}
use Rattle.game.proofs.Sound.{Sound}
use Rattle.game.proofs.Links.{link-inv, link_up}
use Rattle.game.proofs.Climbs.{Climbs, top, up, link-same, climbs-le}
use Rattle.game.proofs.Ancestors.{under-climbs, climbs-under}

-- climbs are joined end to end
pub climbs-trans : {p : List ℕ} {y z x : ℕ} → Climbs p y x → Climbs p z y → Climbs p z x
climbs-trans top k = k
climbs-trans (up m j) k = up m (climbs-trans j k)

-- two climbs from one vertex go one along the other
pub climbs-chain : {p : List ℕ} {x y u : ℕ} → Climbs p x u → Climbs p y u → Climbs p y x ⊎ Climbs p x y
climbs-chain top k = inl k
climbs-chain (up m j) top = inr (up m j)
climbs-chain {p} {x = x} (up m j) (up n k) = climbs-chain j (subst (Climbs p _) (link-same p n m) k)

-- what has no parent climbs nowhere
pub climbs-root : {p : List ℕ} {x z : ℕ} → get_or p x absent ≡ absent → Climbs p z x → x ≡ z
climbs-root e top = refl
climbs-root {p} e (up m k) = let l = link-inv p m in absurd (l.2 (sym l.1 ∙ e))

-- a climb that leaves its vertex goes by the parent
pub climbs-rest : {p : List ℕ} {x z : ℕ} → Climbs p z x → x ≢ z → Climbs p z (get_or p x absent)
climbs-rest top d = absurd (d refl)
climbs-rest {p} (up m k) d = rw (link-inv p m).1 k

-- a vertex from which a climb goes on has a parent
pub climbs-parent : {p : List ℕ} {x y : ℕ} → Climbs p y x → x ≢ y → (x < length p) × (get_or p x absent ≢ absent)
climbs-parent top d = absurd (d refl)
climbs-parent {p} (up m k) d = let l = link-inv p m in (l.0, λ a. l.2 (sym l.1 ∙ a))

-- a climb stays in the table
pub climbs-inside : {p : List ℕ} → Sound p → {y x : ℕ} → Climbs p y x → x < length p → y < length p
climbs-inside s top h = h
climbs-inside s (up m k) h = climbs-inside s k (link_up s m).1

-- each vertex is under itself
pub under-self : (p : List ℕ) (x : ℕ) → under p x x ≡ true
unfolding under
under-self p x = or_left (eqb x x) (member x (ancestors p x)) (eq-eqb x x refl)

module _ {p : List ℕ} (s : Sound p) (n : length p ≤ absent) where
  -- two vertices that climb to each other are one
  pub climbs-antisym : {x y : ℕ} → Climbs p y x → Climbs p x y → x ≡ y
  climbs-antisym j k = le_antisymm (climbs-le s j) (climbs-le s k)

  -- who does not climb to x is not under x
  under-false : (x u : ℕ) → (Climbs p x u → ⊥) → under p x u ≡ false
  under-false x u f = bool_false (under p x u) (λ e. f (under-climbs n e))

  -- a vertex is not under what is below it
  pub under-below : (x u : ℕ) → x < u → under p x u ≡ false
  under-below x u h = under-false x u (λ k. let l : u ≤ x = climbs-le s k in omega arith)

  -- a vertex is under another than itself if its parent is
  pub under-link : (x u c : ℕ) → u ≢ x → Memᴰ (u ─ c) (links p) → under p x u ≡ under p x c
  under-link x u c d m =
      bool_iff (under p x u) (under p x c)
      (λ e. climbs-under s (next refl (under-climbs n e)))
      (λ e. climbs-under s (up m (under-climbs n e)))
    where
      next : {v : ℕ} → v ≡ u → Climbs p x v → Climbs p x c
      next e top = absurd (d (sym e))
      next e (up l k) = subst (Climbs p x) (link-same p (rw e at l) m) k
