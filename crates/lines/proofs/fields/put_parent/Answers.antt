use Rattle.lines.proofs.Pieces.{put-absent, put-present}
use Rattle.lines.proofs.fields.put_parent.Goals as goal

pub returns-then-parent-eq-ABSENT : goal.returns-then-parent-eq-ABSENT
returns-then-parent-eq-ABSENT c = put-absent c.if-parent-eq-ABSENT.true c.put_text.ensures

pub returns : goal.returns
returns c = put-present c.if-parent-eq-ABSENT.false c.put_entry.ensures
