use mathlib.Core.Logic.{inl}
use Rattle.ancestry.proofs.Walk.{walk_start, walks-low, walks-step, walks_less, walks-end}
use Rattle.ancestry.proofs.lowest_common.Goals as goal

pub loop-a-init : goal.loop-a-init
loop-a-init c = (c.requires.0, inl (walk_start c.requires.0 c.requires.1 c.requires.2))

pub bounds-parents-low : goal.bounds-parents-low
bounds-parents-low c =
    walks-low c.loop-a.invariant.0 c.loop-a.invariant.1 c.loop-a-test.true c.min-low.ensures c.max-b.ensures

pub loop-a-smaller : goal.loop-a-smaller
loop-a-smaller c =
    walks_less c.loop-a.invariant.0 c.loop-a.invariant.1 c.loop-a-test.true c.min-low.ensures c.max-b.ensures

pub loop-a-preserved : goal.loop-a-preserved
loop-a-preserved c =
    (c.loop-a.invariant.0, walks-step c.loop-a.invariant.0 c.loop-a.invariant.1 c.loop-a-test.true c.min-low.ensures c.max-b.ensures)

pub returns : goal.returns
returns c = walks-end c.loop-a.invariant.0 c.loop-a.invariant.1 c.loop-a-test.false
