use mathlib.Core.Path.{refl}
use Rattle.order.proofs.Fill.{inverted-room, inverted-more, inverted-all}
use Rattle.order.proofs.invert.Goals as goal

pub bounds-inverse-vertex : goal.bounds-inverse-vertex
bounds-inverse-vertex c = inverted-room c.requires.1 c.loop-rank.invariant c.loop-rank-test.true refl

pub loop-rank-preserved : goal.loop-rank-preserved
loop-rank-preserved c = inverted-more c.requires.1 c.loop-rank.invariant c.loop-rank-test.true refl

pub returns : goal.returns
returns c = inverted-all c.requires.1 c.loop-rank.invariant c.loop-rank-test.false
