-- The path from u up to, but not with, r: a vertex x lies on it if u is under x and r is not. Counted at every vertex, such a
-- path balances: it begins at u, ends at r, and goes on from child to parent in between.
-- Assumes nothing.
use mathlib.Core.Path.{◌≡◌, refl, ap, ◌∙◌}
use mathlib.Core.Logic.{◌≢◌, by_cases}
use mathlib.Core.Bool.{Bool, true, false, not, ◌&&◌}
use mathlib.Core.List.{List, Memᴰ}
use Prim.Native.Nat.{ℕ, ◌+◌, ◌≤◌, ◌<◌}
use native.Mathlib.Nat.{zero-add}
use native.Mathlib.Decide.{ℕ_discrete}
use native.Mathlib.Omega.{arith}
use lib.ListN.{length}
use Rattle.game.specs.Edge.{◌─◌}
use Rattle.game.specs.Game.{absent}
use Rattle.game.specs.Table.{one_if}
use Rattle.game.specs.Tree.{links, under}
use Rattle.game.proofs.Sound.{Sound}
use Rattle.game.proofs.Links.{link-inv, link_up}
use Rattle.game.proofs.Climbs.{Climbs, top, up, climbs-le}
use Rattle.reach_slots.specs.Balance.{child_sum}
use Rattle.game.proofs.Subtree.{under-self, under-below, under-link}
use Rattle.reach_slots.proofs.Children.{unit, unit-here, unit-elsewhere, child_sum-ext, child_sum-add, child_sum-none, child_sum-unit}

-- x lies on the path from u up to, but not with, r
unfoldable pub on_path : List ℕ → ℕ → ℕ → ℕ → Bool
on_path p u r x = under p x u && not (under p x r)

-- counted: 1 or 0
abbrev pub lit : List ℕ → ℕ → ℕ → ℕ → ℕ
lit p u r x = one_if (on_path p u r x)

lit-top : (p : List ℕ) (u x : ℕ) → lit p u u x ≡ 0
unfolding on_path one_if
lit-top p u x = none (under p x u)
  where
    none : (t : Bool) → one_if (t && not t) ≡ 0
    none true = refl
    none false = refl

module _ {p : List ℕ} (s : Sound p) (n : length p ≤ absent) where
  -- the path begins at u and goes on from the parent of u
  lit-up : {u c r : ℕ} → Memᴰ (u ─ c) (links p) → Climbs p r c → (x : ℕ) → lit p u r x ≡ unit u x + lit p c r x
  unfolding on_path one_if
  lit-up {u} {c} {r} m k x =
      let h : u < c = (link_up s m).0 in
      let g : c ≤ r = climbs-le s k in
      by_cases (ℕ_discrete u x)
      (λ (e : u ≡ x). rw (unit-here u x e, ← e, under-self p u, under-below s n u r (omega arith), under-below s n u c h))
      (λ (d : u ≢ x). rw (unit-elsewhere u x d, under-link s n x u c d m, zero-add))

  -- along a path what comes in at u goes out at r
  pub path-balance : {r u : ℕ} → Climbs p r u → (x : ℕ) → lit p u r x + unit r x ≡ unit u x + child_sum p (lit p u r) x x
  path-balance {u} top x = omega (arith, lit-top p u x, child_sum-none p (lit p u u) x x (λ c l e. lit-top p u c))
  path-balance {r} {u} (up {c = c} m k) x =
      let l = link-inv p m in
      let h : u < c = (link_up s m).0 in
      let sums : child_sum p (lit p u r) x x ≡ unit c x + child_sum p (lit p c r) x x =
      child_sum-ext p (lit p u r) (λ y. unit u y + lit p c r y) x x (λ y b. lit-up m k y)
      ∙ child_sum-add p (unit u) (lit p c r) x x
      ∙ ap (λ z. z + child_sum p (lit p c r) x x) (child_sum-unit p u x (rw l.1 h) ∙ ap (λ z. unit z x) l.1) in
      omega (arith, lit-up m k x, sums, path-balance k x)
