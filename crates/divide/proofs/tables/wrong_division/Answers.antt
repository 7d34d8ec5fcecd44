use Rattle.refusal.specs.Refusal.{wrong_length}
use Rattle.divide.proofs.tables.wrong_division.Goals as goal

pub returns : goal.returns
unfolding wrong_length
returns c = mathlib.Core.Path.refl
