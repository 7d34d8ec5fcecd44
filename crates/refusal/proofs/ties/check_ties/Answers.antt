use mathlib.Core.Path.{sym, ◌∙◌}
use Rattle.refusal.proofs.Sweep.{none_first}
use Rattle.refusal.proofs.ties.check_ties.Goals as goal

pub returns-then-not-has_fault : goal.returns-then-not-has_fault
returns-then-not-has_fault c = sym (none_first _ _ (sym c.has_fault.ensures ∙ c.if-not-has_fault.true))
