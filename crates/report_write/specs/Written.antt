-- What a report writes of a net.
--
-- Document 01: "Report divides .. It writes each tie's block, each rank's reach and its block count (different blocks among its ties)".
-- Document 02, Paper 3: "Report writes one more table of n: for each rank, how many of its ties, in list order, the count took".
-- Assumes nothing.
use Rattle.std.specs.Prelude.{List, ℕ, length}
use Rattle.game.specs.Table.{tabulate}
use Rattle.game.specs.Edge.{Edge}
use Rattle.game.specs.Net.{Net, reach}
use Rattle.divide.specs.Divide.{DivisionTables, divided}
use Rattle.block_count.specs.BlockCount.{edge_blocks_of, block_count_of}
use Rattle.block_count.specs.Taken.{edges_taken_of}

-- what Report writes of a net: Divide's tables, and the figures of the edges and the vertices
pub record Written : Type 0 where
  pub division : DivisionTables
  pub edge_blocks : List ℕ
  pub reach : List ℕ
  pub block_count : List ℕ
  pub edges_taken : List ℕ

abbrev pub written : DivisionTables → (edge_blocks reach block_count edges_taken : List ℕ) → Written
written d e r c t = record { division = d; edge_blocks = e; reach = r; block_count = c; edges_taken = t }

-- what Report writes when it is accepted
unfoldable pub figures : Net → ℕ → ℕ → List Edge → Written
figures of B k es =
    let division : DivisionTables = divided of B k in
    let n : ℕ = length of.parents in
    written division (edge_blocks_of division.block es) (tabulate n (reach of.parents es)) (tabulate n (block_count_of k division.block es))
    (tabulate n (edges_taken_of k division.block es))
