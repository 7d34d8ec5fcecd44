use Rattle.refusal.proofs.DivisionLimits.{outside_told}
use Rattle.refusal.proofs.limits.is_outside.Goals as goal

pub returns : goal.returns
returns c = outside_told _ _
