use mathlib.Core.Path.{refl, sym, ap, ◌∙◌}
use Rattle.refusal.specs.Numbers.{verdict}
use Rattle.refusal.proofs.Ends.{ends-accepted}
use Rattle.refusal.proofs.Numbers.{ends-handed}
use Rattle.divide.specs.Divide.{divided, divide_outcome}
use Rattle.divide.proofs.Refused.{divide-known}
use Rattle.divide.proofs.divide.Goals as goal

pub returns-in_err-divide_refusal-clause-outcome : goal.returns-in_err-divide_refusal-clause-outcome
unfolding divide_outcome
returns-in_err-divide_refusal-clause-outcome c = ends-handed _ _ _ _ _ _ c.from_residual.ensures.1 c.in_err-divide_refusal.ensures refl

pub cut_and_pack-requires : goal.cut_and_pack-requires
cut_and_pack-requires c =
    let known = divide-known _ _ _ _ _ (sym c.in_ok-divide_refusal.ensures) in
    record { divisible = known.net; fitting = known.tables }

pub returns-clause-outcome : goal.returns-clause-outcome
unfolding divide_outcome verdict
returns-clause-outcome c =
    let known = divide-known _ _ _ _ _ (sym c.in_ok-divide_refusal.ensures) in
    ends-accepted _ _ _ _ refl (sym c.in_ok-divide_refusal.ensures) (c.cut_and_pack.ensures.outcome ∙ ap (divided _ _) known.blocks)
