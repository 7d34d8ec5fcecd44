use Rattle.refusal.specs.Steps.{is_faulty_edge, is_faulty}
use Rattle.refusal.proofs.ties.is_faulty.Goals as goal

pub returns : goal.returns
unfolding is_faulty is_faulty_edge
returns c = rw c.bad_rows.ensures
