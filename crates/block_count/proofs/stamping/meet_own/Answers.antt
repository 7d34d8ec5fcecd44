use Rattle.block_count.proofs.Stamps.{own-none, own-met}
use Rattle.block_count.proofs.stamping.meet_own.Goals as goal

pub returns-then-up-eq0 : goal.returns-then-up-eq0
returns-then-up-eq0 c = own-none c.requires.1 _ c.if-up-eq0.true

pub returns : goal.returns
returns c =
    own-met c.requires.1 _ _ c.if-up-eq0.false c.requires.0 c.meet.ensures.0 c.meet.ensures.1
