-- What an index says of its edges, and queries of an index.
-- Assumes nothing.
use Rattle.std.specs.Prelude.{◌≡◌, ◌≢◌, ℕ, ◌*◌, ◌≤◌, ◌<◌, length}
use mathlib.Core.List.{List, [], ◌∷◌, ◌++◌, flatten}
use Rattle.game.specs.Table.{tabulate}
use Rattle.game.specs.Edge.{Edge, ◌─◌}
use Rattle.index.specs.Index.{Index, vertices, run}
use Rattle.query.specs.Query.{answered, query_outcome}

-- Document 02, Paper 1: "Every tie stands in exactly two runs". An edge of a list, with those before it and those behind it: it stands in
-- the runs of its two ends, once in each and at its place in the list, and in no other.
pub record InTwoRuns (before : List Edge) (a b : ℕ) (behind : List Edge) : Type 0 where
  pub first : run (before ++ (a ─ b) ∷ behind) a ≡ run before a ++ b ∷ run behind a
  pub second : run (before ++ (a ─ b) ∷ behind) b ≡ run before b ++ a ∷ run behind b
  pub no_other : (v : ℕ) → v ≢ a → v ≢ b → run (before ++ (a ─ b) ∷ behind) v ≡ run before v ++ run behind v

-- What queries hand back of the index of a list of edges.
pub record Indexed (t : Index) (es : List Edge) : Type 0 where
  -- the run of each vertex,
  pub answers : (v : ℕ) → v < vertices t → query_outcome t v ≡ answered (run es v) 0
  -- of no vertex nothing, and 4,
  pub no_vertex : (v : ℕ) → vertices t ≤ v → query_outcome t v ≡ answered [] 4
  -- every edge in exactly two runs,
  pub twice : (before : List Edge) (a b : ℕ) (behind : List Edge) → es ≡ before ++ (a ─ b) ∷ behind → InTwoRuns before a b behind
  -- and all runs, "laid end to end by rising rank", are the index; two entries to an edge
  pub laid : flatten (tabulate (vertices t) (λ (v : ℕ). (query_outcome t v).part)) ≡ t.neighbours
  pub entries : length t.neighbours ≡ 2 * length es
