-- The lowest that moved, with one more vertex that gets a parent.
-- Assumes nothing.
use mathlib.Core.Path.{◌≡◌, ap, ◌∙◌}
use mathlib.Core.Logic.{◌≢◌, by_cases}
use mathlib.Core.Bool.{Bool, cond}
use Prim.Native.Nat.{ℕ, ◌≤◌, min}
use native.Mathlib.Decide.{ℕ_discrete}
use native.Mathlib.Omega.{arith}
use borrow.Author.Tests.{eq-eqb, ne_eqb}
use Rattle.moved.specs.Steps.{moved_with}

-- a parent that is as it was, and one that is not
pub moved_same : (m w : ℕ) {old y : ℕ} → old ≡ y → moved_with m w old y ≡ m
unfolding moved_with
moved_same m w {old} {y} e = ap (λ (b : Bool). cond b m (min m w)) (eq-eqb old y e)

pub moved_other : (m w : ℕ) {old y : ℕ} → old ≢ y → moved_with m w old y ≡ min m w
unfolding moved_with
moved_other m w {old} {y} d = ap (λ (b : Bool). cond b m (min m w)) (ne_eqb old y d)

-- a vertex above one that has moved
pub moved-above : (m w old y : ℕ) → m ≤ w → moved_with m w old y ≡ m
moved-above m w old y h = by_cases (ℕ_discrete old y)
    (λ (e : old ≡ y). moved_same m w e)
    (λ (d : old ≢ y). moved_other m w d ∙ omega arith)
