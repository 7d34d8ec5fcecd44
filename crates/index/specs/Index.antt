-- The index of a list of edges, in compressed rows: the neighbours of each vertex, and where those of each begin.
--
-- Document 02, Paper 1: "Keep an index beside a tie list: for each rank, its neighbours in list order, repeats included, all runs laid
-- end to end by rising rank, and beside them a table of n + 1 run starts, the last being the end of the last run."
-- Assumes nothing.
use mathlib.Core.List.{List, [], ◌∷◌, map, flatten}
use Rattle.std.specs.Prelude.{ℕ, ◌+◌, ◌-◌, length}
use Rattle.game.specs.Table.{tabulate}
use Rattle.game.specs.Edge.{Edge}
use Rattle.sorting.specs.Keyed.{values_at}
use Rattle.arcs.specs.Arc.{source, target, arcs}

-- the run of v: "its neighbours in list order, repeats included"
unfoldable pub run : List Edge → ℕ → List ℕ
run es v = values_at source target (arcs es) v

-- the runs "by rising rank"
unfoldable pub runs : ℕ → List Edge → List (List ℕ)
runs n es = tabulate n (run es)

-- where each run starts, by the runs' lengths, if the first starts at k; "the last being the end of the last run"
unfoldable pub offsets : ℕ → List ℕ → List ℕ
offsets k [] = k ∷ []
offsets k (size ∷ sizes) = k ∷ offsets (k + size) sizes

pub record Index : Type 0 where
  pub starts : List ℕ
  pub neighbours : List ℕ

abbrev pub index : List ℕ → List ℕ → Index
index starts neighbours = record { starts = starts; neighbours = neighbours }

-- "The index's n is its number of starts less one"
unfoldable pub vertices : Index → ℕ
vertices t = length t.starts - 1

-- of the edges on n vertices
unfoldable pub index_of : ℕ → List Edge → Index
index_of n es = index (offsets 0 (map length (runs n es))) (flatten (runs n es))
