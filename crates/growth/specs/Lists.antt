-- What growing the net of a list asks of the list and of the tables. No public contract cites this.
-- Assumes nothing.
use Rattle.std.specs.Prelude.{◌≡◌, List, ℕ, ◌+◌, ◌≤◌, length}
use Rattle.game.specs.Edge.{ties, edges}
use Rattle.game.specs.Net.{Net}
use Rattle.refusal.specs.Limits.{max_vertices, max_edges}
use Rattle.refusal.specs.Refusal.{first_fault}
use Rattle.growth.specs.Work.{Work}

-- a list without a fault, within document 01's limits, and tables that fit
pub record ListFits (xs : List ℕ) (lent : Net) (work : Work) : Type 0 where
  pub vertices : length lent.parents ≤ max_vertices
  pub few : length (edges xs) ≤ max_edges
  pub faultless : first_fault (length lent.parents) (ties xs) ≡ 0
  pub weights : length lent.weights ≡ length lent.parents
  pub ends : length work.ends ≡ length lent.parents
  pub jump : length work.jump ≡ length lent.parents
  pub lower : length work.lower ≡ length lent.parents + length (edges xs)
