use Rattle.table.proofs.Filling.{looking-start, looking-turn, looking-end}
use Rattle.table.proofs.is_all.Goals as goal

pub loop-y-init : goal.loop-y-init
loop-y-init c = looking-start _ _

pub loop-y-preserved : goal.loop-y-preserved
loop-y-preserved c = looking-turn c.loop-y.invariant c.loop-y-test.true

pub returns : goal.returns
returns c = looking-end c.loop-y.invariant c.loop-y-test.false
