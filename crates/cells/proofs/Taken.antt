-- The verdict of a call's own answer.
-- Assumes nothing.
use mathlib.Core.Path.{◌≡◌, refl}
use Rattle.std.specs.Prelude.{Result, Ok, Err}
use Rattle.refusal.specs.declared.kinds.Refusal.{Refusal}
use Rattle.refusal.specs.Numbers.{number_of, verdict}
use Rattle.cells.specs.Taken.{verdict_by}

pub verdict-taken : {X : Type 0} (answer : Result X Refusal) → verdict_by number_of answer ≡ verdict answer
unfolding verdict_by verdict
verdict-taken (Ok values) = refl
verdict-taken (Err r) = refl
