use native.Mathlib.Omega.{arith}
use Rattle.groups.proofs.Filing.{listed-inside, listed-on}
use Rattle.groups.proofs.cutting.is_short.Goals as goal

pub bounds-next-child : goal.bounds-next-child
bounds-next-child c =
    omega (arith, listed-inside c.loop-child.invariant c.loop-child-test.true)

pub loop-child-preserved : goal.loop-child-preserved
loop-child-preserved c =
    listed-on c.loop-child.invariant c.loop-child-test.true
