-- What summing a report up asks and promises. No public contract cites this.
-- Assumes nothing.
use Rattle.std.specs.Prelude.{◌≡◌, List, ℕ, ◌≤◌, ◌<◌, length}
use Rattle.game.specs.Table.{sum}
use Rattle.refusal.specs.Limits.{max_vertices, max_total}
use Rattle.cost.specs.SummingSteps.{bound_by, volume_by}
use Rattle.share.specs.Share.{even_share}
use Rattle.cost.specs.declared.Totals.{Totals}
use Rattle.cost.specs.Figures.{totals}

-- the tables of a report, as long as its vertices and its blocks
pub record ReportTables (p top reach block_count block_loads : List ℕ) : Type 0 where
  pub few : length p ≤ max_vertices
  pub tops : length top ≡ length p
  pub reaches : length reach ≡ length p
  pub counts : length block_count ≡ length p
  pub some : 0 < length block_loads
  pub few_blocks : length block_loads ≤ max_vertices
  pub small : sum block_loads ≤ max_total

-- the totals by the tables alone
unfoldable pub summed : (p top reach block_count block_loads : List ℕ) → Totals
summed p top reach block_count block_loads = totals (bound_by p top reach) (volume_by block_count) (even_share (sum block_loads) (length block_loads))
