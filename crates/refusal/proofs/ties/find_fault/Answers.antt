use mathlib.Core.Path.{sym, ◌∙◌}
use Rattle.refusal.proofs.Fault.{scan-stop, scan-on, scan-end}
use Rattle.refusal.proofs.Numbers.{number-positive, handed-on}
use Rattle.refusal.proofs.ties.find_fault.Goals as goal

pub loop-tie-preserved : goal.loop-tie-preserved
loop-tie-preserved c = scan-on _ c.in-Some.ensures.steps (sym c.in_ok-check_tie.ensures) ∙ c.loop-tie.invariant

pub returns-in_err-check_tie : goal.returns-in_err-check_tie
returns-in_err-check_tie c =
    handed-on _ _ c.from_residual.ensures.1
    (c.in_err-check_tie.ensures
    ∙ sym (scan-stop _ c.in-Some.ensures.steps (λ z. number-positive _ (c.in_err-check_tie.ensures ∙ z)))
    ∙ c.loop-tie.invariant)

pub returns : goal.returns
returns c = sym (scan-end _ c.in-None.ensures.steps.0) ∙ c.loop-tie.invariant
