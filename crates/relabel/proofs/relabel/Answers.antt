use mathlib.Core.Path.{refl, sym}
use Rattle.refusal.specs.Numbers.{verdict}
use Rattle.refusal.proofs.Numbers.{ends-handed}
use Rattle.relabel.specs.Relabel.{relabel_outcome}
use Rattle.relabel.proofs.Accepted.{relabel-known}
use Rattle.relabel.proofs.Relabelled.{inverse-look-up, relabel-accepted}
use Rattle.relabel.proofs.relabel.Goals as goal

pub returns-in_err-relabel_refusal : goal.returns-in_err-relabel_refusal
unfolding relabel_outcome
returns-in_err-relabel_refusal c = ends-handed _ _ _ _ _ _ c.from_residual.ensures.1 c.in_err-relabel_refusal.ensures refl

pub invert-requires : goal.invert-requires
invert-requires c = let a = relabel-known _ _ _ _ (sym c.in_ok-relabel_refusal.ensures) in (a.count, a.good, a.whole)

pub look_up-requires : goal.look_up-requires
look_up-requires c =
    let a = relabel-known _ _ _ _ (sym c.in_ok-relabel_refusal.ensures) in
    inverse-look-up _ _ _ c.invert.ensures a.all a.faultless a.same

pub returns : goal.returns
unfolding verdict
returns c = relabel-accepted _ _ _ _ (sym c.in_ok-relabel_refusal.ensures) c.invert.ensures c.look_up.ensures
