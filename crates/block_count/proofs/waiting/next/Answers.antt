use Rattle.block_count.proofs.Passing.{next-met, next-own, next-unmet}
use Rattle.block_count.proofs.waiting.next.Goals as goal

pub returns-then-pending-lt-UNMET : goal.returns-then-pending-lt-UNMET
returns-then-pending-lt-UNMET c = next-met _ _ _ c.if-pending-lt-UNMET.true c.one_less.ensures

pub returns-then-own : goal.returns-then-own
returns-then-own c = next-own _ _ _ c.if-pending-lt-UNMET.false c.if-own.true c.one_less-needed.ensures

pub returns : goal.returns
returns c = next-unmet _ _ _ c.if-pending-lt-UNMET.false c.if-own.false c.one_less-needed.ensures
