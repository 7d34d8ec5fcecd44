-- A net: an elimination forest with a weight on each vertex, and the net of a list of ties.
--
-- Document 01: "A net is a table of parents and a table of loads"; "The net of a tie list among n marks has the parents that
-- Forest and the loads that Load give for these ties." A load is a weight here. Its reach is a vertex's column count in the
-- Cholesky factor, less one.
-- Assumes nothing.
use Rattle.std.specs.Prelude.{Bool, ◌&&◌, ◌||◌, cond, List, map, ℕ, eqb}
use Rattle.game.specs.Table.{tabulate, sum, count, some_entry}
use Rattle.game.specs.Edge.{Edge, ◌─◌, lower, Tie, without_rows}
use Rattle.game.specs.Game.{forest}
use Rattle.game.specs.Tree.{ancestors, under}

pub record Net : Type 0 where
  pub parents : List ℕ
  pub weights : List ℕ

abbrev pub net : List ℕ → List ℕ → Net
net parents weights = record { parents = parents; weights = weights }

-- the vertex that a tie is charged to: the lower end of its edge
unfoldable pub owner : Edge → ℕ
unfolding lower
owner e = lower e

-- "Load of x: the number of ties whose lower end is x, repeats counted"; by document 02, Paper 6, "Load is the sum of rows"
unfoldable pub weight : List Tie → ℕ → ℕ
unfolding owner sum
weight ts x = sum (map (λ (t : Tie). cond (eqb (owner t.edge) x) t.rows 0) ts)

-- what a list of ties is charged in all
unfoldable pub charges : List Tie → ℕ
unfolding sum
charges ts = sum (map (λ (t : Tie). t.rows) ts)

unfoldable pub weights : ℕ → List Tie → List ℕ
unfolding tabulate weight
weights n ts = tabulate n (weight ts)

-- "Total: the sum of the loads"
abbrev pub total : Net → ℕ
total of = sum of.weights

-- the net of a list of ties on n vertices
unfoldable pub net_of : ℕ → List Tie → Net
unfolding forest weights
net_of n ts = net (forest n (without_rows ts)) (weights n ts)

-- the edge runs between y and a vertex under x
unfoldable pub enters : List ℕ → ℕ → ℕ → Edge → Bool
unfolding under
enters p x y (a ─ b) = eqb a y && under p x b || eqb b y && under p x a

-- "Reach of x: how many marks above x have a tie with a mark under x"
unfoldable pub reach : List ℕ → List Edge → ℕ → ℕ
unfolding ancestors enters count some_entry
reach p es x = count (λ (y : ℕ). some_entry (enters p x y) es) (ancestors p x)
