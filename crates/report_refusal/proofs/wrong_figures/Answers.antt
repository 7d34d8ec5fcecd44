use Rattle.refusal.specs.Refusal.{wrong_length}
use Rattle.report_refusal.proofs.wrong_figures.Goals as goal

pub returns : goal.returns
unfolding wrong_length
returns c = mathlib.Core.Path.refl
