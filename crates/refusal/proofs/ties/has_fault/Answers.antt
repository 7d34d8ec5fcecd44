use mathlib.Core.Path.{sym, ◌∙◌}
use Rattle.refusal.proofs.Sweep.{sweep-on, sweep-end}
use Rattle.refusal.proofs.ties.has_fault.Goals as goal

pub loop-tie-preserved : goal.loop-tie-preserved
loop-tie-preserved c = sweep-on _ c.loop-tie.found c.in-Some.ensures.steps c.is_faulty-found.ensures ∙ c.loop-tie.invariant

pub returns : goal.returns
returns c = sym (sweep-end _ _ c.in-None.ensures.steps.0) ∙ c.loop-tie.invariant
