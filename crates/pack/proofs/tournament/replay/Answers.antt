use native.Mathlib.Omega.{arith}
use mathlib.Core.Path.{refl}
use Rattle.pack.proofs.Winners.{lower-min, replay-more, replay-done, replay-none}
use Rattle.pack.proofs.tournament.replay.Goals as goal

pub returns-then-nodes-i : goal.returns-then-nodes-i
returns-then-nodes-i c =
    replay-none c.requires c.if-nodes-i.true c.key_of-least.ensures refl

pub loop-i-preserved : goal.loop-i-preserved
loop-i-preserved c =
    replay-more c.loop-i.invariant c.loop-i-test.true _ c.sibling.ensures (lower-min c.min-least.ensures)

pub returns : goal.returns
returns c = replay-done c.loop-i.invariant c.loop-i-test.false (omega (arith, c.requires.inside)) refl
