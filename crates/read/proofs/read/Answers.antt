use mathlib.Core.Path.{refl, sym}
use Rattle.refusal.specs.Numbers.{verdict}
use Rattle.refusal.proofs.Ends.{ends-accepted}
use Rattle.refusal.proofs.Numbers.{ends-handed}
use Rattle.read.specs.Read.{read_outcome}
use Rattle.read.proofs.Accepted.{read-accepted}
use Rattle.read.proofs.read.Goals as goal

pub returns-in_err-read_refusal : goal.returns-in_err-read_refusal
unfolding read_outcome
returns-in_err-read_refusal c = ends-handed _ _ _ _ _ _ c.from_residual.ensures.1 c.in_err-read_refusal.ensures refl

pub take_records-requires : goal.take_records-requires
take_records-requires c = let a = read-accepted _ _ _ (sym c.in_ok-read_refusal.ensures) in (a.weights_right, a.whole)

pub returns : goal.returns
unfolding read_outcome verdict
returns c = ends-accepted _ _ _ _ refl (sym c.in_ok-read_refusal.ensures) c.take_records.ensures
