use mathlib.Core.Path.{ap}
use Rattle.cells.specs.Returned.{separator_cells, separator_cells_of}
use Rattle.cells.proofs.Handed.{cells-accepted, cells-refused}
use Rattle.cells.proofs.hand_separator.Goals as goal

pub returns-in-Ok : goal.returns-in-Ok
unfolding separator_cells_of
returns-in-Ok o c =
    cells-accepted _ separator_cells_of _ c.in-Ok.is (ap (separator_cells _) c.lowest_rank.ensures)

pub returns-in-Err : goal.returns-in-Err
returns-in-Err o c = cells-refused _ separator_cells_of _ c.in-Err.is c.as_number.ensures
