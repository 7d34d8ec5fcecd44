-- Sums over the first entries of a table, one more at a time, and what a vertex adds to the bound.
-- Assumes nothing.
use mathlib.Core.Path.{◌≡◌, refl, sym, ap, ap₂, ◌∙◌}
use mathlib.Core.Bool.{Bool, true, false, not, ◌&&◌, cond}
use mathlib.Core.List.{List}
use Prim.Native.Nat.{ℕ, zero, suc, ◌+◌, ◌≤◌, ◌<◌}
use native.Mathlib.Nat.{le_refl, zero-add, add-zero, suc-add, add-suc}
use native.Mathlib.Numerals.{add-one}
use native.Mathlib.Omega.{arith}
use lib.Dec.{eqb}
use lib.ListN.{length, get_or}
use borrow.Author.Tests.{eq-eqb, ne_eqb}
use Rattle.game.specs.Table.{tabulate_from, tabulate, sum}
use Rattle.game.specs.Game.{absent}
use Rattle.game.proofs.Sound.{get_d_default}
use Rattle.cost.specs.SummingSteps.{cut_reach, bound_term}

from_next : (a k : ℕ) (f : ℕ → ℕ) → sum (tabulate_from a (suc k) f) ≡ sum (tabulate_from a k f) + f (a + k)
unfolding tabulate_from sum
from_next a zero f = omega (arith, ap f (add-zero a))
from_next a (suc k) f = omega (arith, from_next (suc a) k f, ap f (suc-add a k), ap f (add-suc a k))

-- one entry more
pub sum-next : (n : ℕ) (f : ℕ → ℕ) → sum (tabulate (n + 1) f) ≡ sum (tabulate n f) + f n
unfolding tabulate
sum-next n f = rw (add-one n) (from_next 0 n f ∙ ap (λ (v : ℕ). sum (tabulate_from 0 n f) + v) (ap f (zero-add n)))

pub sum-none : (f : ℕ → ℕ) → sum (tabulate 0 f) ≡ 0
unfolding tabulate tabulate_from sum
sum-none f = refl

pub sum_step : (f : ℕ → ℕ) {s t : ℕ} (x : ℕ) → s ≡ sum (tabulate x f) → t ≡ f x → s + t ≡ sum (tabulate (x + 1) f)
sum_step f x e q = ap₂ ◌+◌ e q ∙ sym (sum-next x f)

-- a vertex that is its own top and has a parent adds its reach, any other adds nothing
module _ (x parent top reach : ℕ) where
  pub cut-other : (top ≡ x → ⊥) → 0 ≡ cut_reach x parent top reach
  unfolding cut_reach
  cut-other d = rw (ne_eqb top x d) refl

  pub cut-root : top ≡ x → parent ≡ absent → 0 ≡ cut_reach x parent top reach
  unfolding cut_reach
  cut-root e a = rw (eq-eqb top x e, eq-eqb parent absent a) refl

  pub cut-here : top ≡ x → (parent ≡ absent → ⊥) → {r : ℕ} → r ≡ reach → r ≡ cut_reach x parent top reach
  unfolding cut_reach
  cut-here e d q = rw (eq-eqb top x e, ne_eqb parent absent d) q

pub bound-term : (p top reach : List ℕ) (x : ℕ) → x < length p → cut_reach x (get_or p x 0) (get_or top x 0) (get_or reach x 0) ≡ bound_term p top reach x
unfolding bound_term
bound-term p top reach x h = ap (λ (q : ℕ). cut_reach x q (get_or top x 0) (get_or reach x 0)) (get_d_default p x 0 absent h)

-- what a vertex adds is at most its reach
pub bound-term-le : (p top reach : List ℕ) (x : ℕ) → bound_term p top reach x ≤ get_or reach x 0
unfolding bound_term cut_reach
bound-term-le p top reach x = go (eqb (get_or top x 0) x && not (eqb (get_or p x absent) absent))
  where
    go : (b : Bool) → cond b (get_or reach x 0) 0 ≤ get_or reach x 0
    go true = le_refl (get_or reach x 0)
    go false = omega arith
