use mathlib.Core.Path.{sym, ◌∙◌}
use Rattle.refusal.specs.DivisionLimits.{bad_limits}
use Rattle.refusal.proofs.limits.bad_limits.Goals as goal

pub returns-then-is_outside : goal.returns-then-is_outside
unfolding bad_limits
returns-then-is_outside c = simp (sym c.is_outside.ensures ∙ c.if-is_outside.true)

pub returns : goal.returns
unfolding bad_limits
returns c = simp (sym c.is_outside.ensures ∙ c.if-is_outside.false) c.is_outside-2.ensures
