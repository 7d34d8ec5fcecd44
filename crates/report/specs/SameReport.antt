-- What a report says of the same ties in another order, or with the ends of some of them exchanged. A tie keeps its rows.
--
-- Everything that a report decides, answers and writes is the same, but for two tables that follow the list: the block of each edge stands
-- at the edge's place in the list, and the edges that a count took are counted in list order.
-- Assumes nothing.
use Rattle.std.specs.Prelude.{◌≡◌, List, ℕ}
use Rattle.game.specs.Table.{tabulate}
use Rattle.game.specs.Edge.{edges}
use Rattle.refusal.specs.Verdict.{accepted}
use Rattle.refusal.specs.Outcome.{Outcome}
use Rattle.block_count.specs.BlockCount.{edge_blocks_of}
use Rattle.block_count.specs.Taken.{edges_taken_of}
use Rattle.cost.specs.declared.Totals.{Totals}
use Rattle.report.specs.Report.{Lent}

-- of a report into k blocks on a net of n vertices: its outcome given one list, and given the list ys
pub record SameReport (n k : ℕ) (one : Outcome Totals Lent) (ys : List ℕ) (other : Outcome Totals Lent) : Type 0 where
  pub verdict : other.verdict ≡ one.verdict
  pub division : other.tables.written.division ≡ one.tables.written.division
  pub reach : other.tables.written.reach ≡ one.tables.written.reach
  pub block_count : other.tables.written.block_count ≡ one.tables.written.block_count
  pub compared : other.tables.compared ≡ one.tables.compared
  pub work : other.tables.work ≡ one.tables.work
  -- the other two, where they are written, from the first report's blocks and the second list
  pub edge_blocks : (totals : Totals) → one.verdict ≡ accepted totals → other.tables.written.edge_blocks ≡ edge_blocks_of one.tables.written.division.block (edges ys)
  pub edges_taken : (totals : Totals) → one.verdict ≡ accepted totals
      → other.tables.written.edges_taken ≡ tabulate n (edges_taken_of k one.tables.written.division.block (edges ys))
