use mathlib.Core.Path.{◌∙◌}
use native.Mathlib.Omega.{arith}
use Rattle.records.proofs.Absent.{absent-at}
use Rattle.records.proofs.is_absent.Goals as goal

pub returns : goal.returns
returns c = c.eq.ensures ∙ absent-at _ _ (λ i. omega (arith, c.type_inv.bytes i))
