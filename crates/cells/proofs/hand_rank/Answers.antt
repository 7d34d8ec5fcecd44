use Rattle.moved.specs.Moved.{moved_rank}
use Rattle.cells.proofs.Handed.{cells-accepted, cells-refused}
use Rattle.cells.proofs.hand_rank.Goals as goal

pub returns-in-Err : goal.returns-in-Err
returns-in-Err o c = cells-refused _ moved_rank _ c.in-Err.is c.as_number.ensures

pub returns : goal.returns
returns o c = cells-accepted _ moved_rank _ c.in-Ok.is c.moved_rank.ensures
