use mathlib.Core.Path.{ap₂}
use Rattle.cells.specs.Returned.{cells, cells_of}
use Rattle.cells.proofs.Handed.{cells-accepted, cells-refused}
use Rattle.cells.proofs.hand_totals.Goals as goal

pub returns-in-Ok : goal.returns-in-Ok
unfolding cells_of
returns-in-Ok o c =
    cells-accepted _ cells_of _ c.in-Ok.is (ap₂ (cells _ _) c.quotient.ensures c.remainder.ensures)

pub returns-in-Err : goal.returns-in-Err
returns-in-Err o c = cells-refused _ cells_of _ c.in-Err.is c.as_number.ensures
