use Rattle.refusal.specs.Refusal.{wrong_length}
use Rattle.growth.proofs.work.bad_work.Goals as goal

pub returns : goal.returns
unfolding wrong_length
returns c = mathlib.Core.Path.refl
