-- An index computed from the definition. The paper prints none; the edges are a fan with one edge that repeats, turned round.
-- Assumes nothing.
use Rattle.std.specs.Prelude.{◌≡◌, refl}
use mathlib.Core.List.{List, [], ◌∷◌, flatten}
use Rattle.game.specs.Table.{tabulate}
use Rattle.game.specs.Edge.{Edge, ◌─◌}
use Rattle.sorting.specs.Keyed.{values_at}
use Rattle.arcs.specs.Arc.{source, target, arcs}
use Rattle.index.specs.Index.{run, runs, offsets, index, index_of}

abbrev pub fan : List Edge
fan = (0 ─ 1) ∷ (2 ─ 0) ∷ (0 ─ 3) ∷ (1 ─ 0) ∷ []

-- the runs of 0 to 4: 1 2 3 1, then 0 0, 0, 0 and nothing
pub example : index_of 5 fan ≡ index (0 ∷ 4 ∷ 6 ∷ 7 ∷ 8 ∷ 8 ∷ []) (1 ∷ 2 ∷ 3 ∷ 1 ∷ 0 ∷ 0 ∷ 0 ∷ 0 ∷ [])
unfolding index_of runs run arcs source target offsets values_at tabulate flatten
example = refl
