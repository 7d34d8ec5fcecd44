use mathlib.Core.Path.{ap, ◌∙◌}
use mathlib.Core.List.{[]}
use Rattle.query.specs.Query.{answered}
use Rattle.query.proofs.Accepted.{part_room, part-answers}
use Rattle.query.proofs.query.Goals as goal

pub returns-in-Ok : goal.returns-in-Ok
returns-in-Ok c = part-answers _ _ _ c.in-Ok.ensures

pub returns-in-Err : goal.returns-in-Err
returns-in-Err c = ap (answered []) c.number.ensures ∙ part-answers _ _ _ c.in-Err.ensures

pub slice_bounds-result-end : goal.slice_bounds-result-end
slice_bounds-result-end c = part_room _ _ _ c.in-Ok.ensures
