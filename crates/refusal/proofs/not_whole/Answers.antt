use mathlib.Core.Path.{refl}
use Rattle.refusal.specs.Refusal.{not_whole}
use Rattle.refusal.proofs.not_whole.Goals as goal

pub returns : goal.returns
unfolding not_whole
returns c = refl
