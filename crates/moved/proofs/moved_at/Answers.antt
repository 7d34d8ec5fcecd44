use mathlib.Core.Path.{sym}
use Rattle.moved.proofs.Differ.{moved_none, moved-some}
use Rattle.moved.proofs.moved_at.Goals as goal

pub returns-then-lowest-eq-ABSENT : goal.returns-then-lowest-eq-ABSENT
returns-then-lowest-eq-ABSENT c = sym (moved_none _ c.if-lowest-eq-ABSENT.true)

pub returns : goal.returns
returns c = sym (moved-some _ c.if-lowest-eq-ABSENT.false)
