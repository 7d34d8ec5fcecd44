use Rattle.block_count.proofs.Known.{known-fewer, known-one, known_read, known-later}
use Rattle.block_count.proofs.counting.known_at.Goals as goal

pub returns-then-count-all : goal.returns-then-count-all
returns-then-count-all c = known-fewer _ _ _ _ _ c.if-count-all.true

pub returns-then-all-eq1 : goal.returns-then-all-eq1
returns-then-all-eq1 c = known-one _ _ _ _ _ c.if-count-all.false c.if-all-eq1.true

pub returns-then-up-eq0 : goal.returns-then-up-eq0
returns-then-up-eq0 c = known_read _ _ _ _ _ c.if-count-all.false c.if-all-eq1.false c.if-up-eq0.true

pub returns : goal.returns
returns c = known-later _ _ _ _ _ c.if-count-all.false c.if-all-eq1.false c.if-up-eq0.false
