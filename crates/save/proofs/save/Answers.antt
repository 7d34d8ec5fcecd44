use mathlib.Core.Path.{refl, sym}
use Rattle.refusal.specs.Numbers.{verdict}
use Rattle.refusal.proofs.Ends.{ends-accepted}
use Rattle.refusal.proofs.Numbers.{ends-handed}
use Rattle.save.specs.Save.{save_outcome}
use Rattle.save.proofs.Accepted.{save-accepted}
use Rattle.save.proofs.save.Goals as goal

pub returns-in_err-save_refusal : goal.returns-in_err-save_refusal
unfolding save_outcome
returns-in_err-save_refusal c = ends-handed _ _ _ _ _ _ c.from_residual.ensures.1 c.in_err-save_refusal.ensures refl

pub put_records-requires : goal.put_records-requires
put_records-requires c = let a = save-accepted _ _ (sym c.in_ok-save_refusal.ensures) in (a.weights_right, a.whole)

pub returns : goal.returns
unfolding save_outcome verdict
returns c = ends-accepted _ _ _ _ refl (sym c.in_ok-save_refusal.ensures) c.put_records.ensures
