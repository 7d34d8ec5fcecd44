-- An answer handed over, case by case.
-- Assumes nothing.
use mathlib.Core.Path.{◌≡◌, refl}
use Prim.Native.Nat.{ℕ}
use Rattle.std.specs.Prelude.{Result, Ok, Err}
use Rattle.refusal.specs.Verdict.{number}
use Rattle.cells.specs.Returned.{told}
use Rattle.cells.specs.Taken.{verdict_by}

module _ {X E : Type 0} (numbered : E → ℕ) {answer : Result X E} where
  pub number-accepted : {values : X} → answer ≡ Ok values → 0 ≡ number (verdict_by numbered answer)
  unfolding verdict_by number
  number-accepted e = rw e refl

  pub number-refused : {r : E} {k : ℕ} → answer ≡ Err r → k ≡ numbered r → k ≡ number (verdict_by numbered answer)
  unfolding verdict_by number
  number-refused e h = rw e h

  -- the cells, by how they hold the values
  module _ {C : Type 0} (hold : X → C) (was : C) where
    pub cells-accepted : {values : X} {cells : C} → answer ≡ Ok values → cells ≡ hold values → (0 ≡ number (verdict_by numbered answer)) × (cells ≡ told hold (verdict_by numbered answer) was)
    unfolding verdict_by told
    cells-accepted e h = (number-accepted e, rw e h)

    pub cells-refused : {r : E} {k : ℕ} → answer ≡ Err r → k ≡ numbered r → (k ≡ number (verdict_by numbered answer)) × (was ≡ told hold (verdict_by numbered answer) was)
    unfolding verdict_by told
    cells-refused e h = (number-refused e h, rw e refl)
