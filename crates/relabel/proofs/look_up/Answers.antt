use Rattle.relabel.proofs.Filled.{filled_none, filled-ends, filled-turn, filled-end}
use Rattle.relabel.proofs.look_up.Goals as goal

pub loop-i-init : goal.loop-i-init
loop-i-init c = rw (c.into_iter-i-iterator.ensures.into_iter_gives, c.enumerate-i-items.ensures.count) (filled_none c.requires (rw c.enumerate-i-items.ensures.source c.ties.ensures))

pub read_at-a-requires : goal.read_at-a-requires
read_at-a-requires c = (filled-ends c.loop-i.invariant c.in-Some.ensures.steps.0).0

pub read_at-b-requires : goal.read_at-b-requires
read_at-b-requires c = (filled-ends c.loop-i.invariant c.in-Some.ensures.steps.0).1

pub loop-i-preserved : goal.loop-i-preserved
loop-i-preserved c = rw c.in-Some.ensures.steps.2 (filled-turn c.loop-i.invariant c.in-Some.ensures.steps.0 c.read_at-a.ensures c.read_at-b.ensures (rw (← c.in-Some.ensures.steps.1) c.put.ensures))

pub returns : goal.returns
returns c = filled-end c.loop-i.invariant c.in-None.ensures.steps.0.0
