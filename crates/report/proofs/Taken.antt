-- The edges taken of every accepted report: where the count of each vertex ends.
-- Assumes nothing.
use mathlib.Core.Path.{◌≡◌, ap}
use mathlib.Core.List.{List, []}
use Prim.Native.Nat.{ℕ, ◌<◌}
use lib.ListN.{length, get_or}
use Rattle.game.specs.Table.{tabulate}
use Rattle.game.specs.Edge.{edges}
use Rattle.game.specs.Net.{Net}
use Rattle.game.proofs.Tables.{tabulate-entry}
use Rattle.refusal.specs.Verdict.{accepted}
use Rattle.divide.specs.Divide.{divided}
use Rattle.cost.specs.declared.Totals.{Totals}
use Rattle.block_count.specs.BlockCount.{blocks_at}
use Rattle.block_count.specs.Taken.{edges_taken_of, CountEnds}
use Rattle.block_count.proofs.Taken.{taken-ends, ends-count, nothing-open}
use Rattle.report_write.specs.Written.{Written, figures}
use Rattle.report.specs.Report.{Lent, report_outcome}
use Rattle.report.proofs.Together.{some_block, written-figures, written-division}

module _ (of : Net) (B k : ℕ) (xs : List ℕ) (was : Lent) {totals : Totals} (answer : (report_outcome of B k xs was).verdict ≡ accepted totals) where
  taken : (report_outcome of B k xs was).tables.written.edges_taken ≡ tabulate (length of.parents) (edges_taken_of k (divided of B k).block (edges xs))
  unfolding figures
  taken = ap (λ (w : Written). w.edges_taken) (written-figures of B k xs was answer)

  -- "up to and with the first that completes the k, or all if none does"
  pub report-taken : (x : ℕ) → x < length of.parents
      → CountEnds k (blocks_at (report_outcome of B k xs was).tables.written.division.block (edges xs) x) (get_or (report_outcome of B k xs was).tables.written.edges_taken x 0)
  unfolding edges_taken_of
  report-taken x h =
      rw (written-division of B k xs was answer, taken, tabulate-entry (length of.parents) (edges_taken_of k (divided of B k).block (edges xs)) x 0 h)
      (ends-count (taken-ends k [] (blocks_at (divided of B k).block (edges xs) x) (nothing-open k (some_block of B k xs was answer))))
