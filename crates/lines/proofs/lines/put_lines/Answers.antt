use Rattle.lines.specs.Lines.{rank_text}
use Rattle.lines.proofs.Lined.{lined-none, lined-next}
use Rattle.lines.proofs.lines.put_lines.Goals as goal

pub loop-x-init : goal.loop-x-init
loop-x-init c = lined-none _ _

pub loop-x-preserved : goal.loop-x-preserved
unfolding rank_text
loop-x-preserved c = lined-next c.loop-x.invariant c.put_line-end.ensures
