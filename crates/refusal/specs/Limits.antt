-- The papers' limits. Each has a name of its own, also where two are the same number today.
-- Assumes nothing.
use Rattle.std.specs.Prelude.{Bool, not, ◌&&◌, ℕ, leb}

-- "n marks, 1 to 1,000,000"
abbrev pub max_vertices : ℕ
max_vertices = 1_000_000

-- "Total: the sum of the loads"; document 02, Paper 6: "The bounds of 16,000,000 on totals and on B become 96,000,000 rows"
abbrev pub max_total : ℕ
max_total = 96_000_000

-- Paper 6: "a list is still at most 16,000,000 ties"
abbrev pub max_edges : ℕ
max_edges = 16_000_000

-- Paper 6: "rows not 1 to 6"
abbrev pub max_rows : ℕ
max_rows = 6

-- "not 1 to" a largest
unfoldable pub outside : ℕ → ℕ → Bool
outside most v = not (leb 1 v && leb v most)
