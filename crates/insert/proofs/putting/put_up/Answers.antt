use Rattle.insert.proofs.Lowered.{lowers-none, lowers-on}
use Rattle.insert.proofs.Puts.{trade-start, trade-step, trade-end}
use Rattle.insert.proofs.putting.put_up.Goals as goal

pub loop-low-init : goal.loop-low-init
loop-low-init c = (trade-start c.requires.0 c.requires.1 c.requires.2, lowers-none _ _)

pub loop-low-preserved : goal.loop-low-preserved
loop-low-preserved c =
    let t = c.loop-low.invariant in
    let x = c.exchange-edge.ensures in
    (trade-step t.0 x.0, lowers-on t.1 x.1)

pub returns : goal.returns
returns c = (trade-end c.loop-low.invariant.0 c.loop-low-test.false, c.loop-low.invariant.1)
