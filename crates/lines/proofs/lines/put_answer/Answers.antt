use mathlib.Core.Path.{ap}
use Rattle.refusal.specs.Numbers.{verdict}
use Rattle.lines.proofs.Lined.{put-accepted, put-refusal}
use Rattle.lines.proofs.lines.put_answer.Goals as goal

pub returns-in-Ok : goal.returns-in-Ok
unfolding verdict
returns-in-Ok c =
    put-accepted _ (ap verdict c.in-Ok.is) c.put_lines-end.ensures.0 c.put_totals.ensures

pub returns-in-Err : goal.returns-in-Err
unfolding verdict
returns-in-Err c = put-refusal _ (ap verdict c.in-Err.is) c.put_refused.ensures
