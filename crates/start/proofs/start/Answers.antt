use mathlib.Core.Path.{refl, sym}
use Rattle.refusal.specs.Numbers.{verdict}
use Rattle.refusal.proofs.Ends.{ends-accepted}
use Rattle.refusal.proofs.Numbers.{ends-handed}
use Rattle.start.specs.Start.{start_outcome}
use Rattle.start.proofs.Accepted.{startable}
use Rattle.start.proofs.Outcomes.{start-ends}
use Rattle.start.proofs.start.Goals as goal

pub returns-in_err-start_refusal : goal.returns-in_err-start_refusal
unfolding start_outcome
returns-in_err-start_refusal c = ends-handed _ _ _ _ _ _ c.from_residual.ensures.1 c.in_err-start_refusal.ensures refl

pub returns : goal.returns
unfolding verdict start_outcome
returns c =
    let z = sym c.in_ok-start_refusal.ensures in
    ends-accepted _ _ _ _ refl z
    (start-ends c.args.parents.now c.args.weights.now (startable _ z).long (c.fill.ensures.after (λ y e. e)) (c.fill-2.ensures.after (λ y e. e)))
