use native.Mathlib.Omega.{arith}
use Rattle.edge.proofs.Splitting.{charges-next, charges-none}
use Rattle.edge.proofs.charges.Goals as goal

pub overflow_add-sum : goal.overflow_add-sum
overflow_add-sum c = omega (arith, c.loop-tie.invariant, c.from-sum.ensures, charges-next c.in-Some.ensures.steps, c.requires)

pub loop-tie-preserved : goal.loop-tie-preserved
loop-tie-preserved c = omega (arith, c.loop-tie.invariant, c.from-sum.ensures, charges-next c.in-Some.ensures.steps)

pub returns : goal.returns
returns c = omega (arith, c.loop-tie.invariant, charges-none c.in-None.ensures.steps.0)
