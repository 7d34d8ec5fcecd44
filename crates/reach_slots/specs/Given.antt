-- What the reaches are counted from: the forest of the edges, and the number of edges that lead up from each vertex. That is a number of
-- edges, whatever an edge is charged.
-- Assumes nothing.
use Rattle.std.specs.Prelude.{◌≡◌, List, ℕ, ◌≤◌, eqb, length}
use Rattle.game.specs.Table.{tabulate, count}
use Rattle.game.specs.Edge.{Edge, lower}
use Rattle.game.specs.Game.{forest}
use Rattle.game.specs.Graph.{Proper}
use Rattle.refusal.specs.Limits.{max_vertices, max_edges}

-- the number of edges whose lower end is x
unfoldable pub lower_count : List Edge → ℕ → ℕ
unfolding count lower
lower_count es x = count (λ (e : Edge). eqb (lower e) x) es

unfoldable pub lower_counts : ℕ → List Edge → List ℕ
lower_counts n es = tabulate n (lower_count es)

-- p is the forest of a graph within document 01's limits, and c its edges counted by lower end
pub record Given (p c : List ℕ) (es : List Edge) : Type 0 where
  pub vertices : length p ≤ max_vertices
  pub few : length es ≤ max_edges
  pub proper : Proper (length p) es
  pub parents : p ≡ forest (length p) es
  pub counts : c ≡ lower_counts (length p) es
