use Rattle.block_count.proofs.Stamps.{met-again, met-first}
use Rattle.block_count.proofs.stamping.meet.Goals as goal

pub returns-then-stamps-at : goal.returns-then-stamps-at
returns-then-stamps-at c = met-again _ _ _ c.if-stamps-at.true

pub returns : goal.returns
returns c = met-first _ _ _ c.if-stamps-at.false
