use Rattle.cells.proofs.Handed.{number-accepted, number-refused}
use Rattle.cells.proofs.number.Goals as goal

pub returns-in-Ok : goal.returns-in-Ok
returns-in-Ok o c = number-accepted _ c.in-Ok.is

pub returns-in-Err : goal.returns-in-Err
returns-in-Err o c = number-refused _ c.in-Err.is c.as_number.ensures
