-- What the steps of dividing ask of each other and hand on. The promise of the call itself speaks of none of it.
-- Assumes nothing.
use Rattle.std.specs.Prelude.{◌≡◌, ℕ, ◌≤◌, length}
use Rattle.refusal.specs.DivisionLimits.{max_blocks}
use Rattle.divide.specs.Divide.{DivisionTables}

-- tables that Divide can write for n vertices, with at least one block
pub record Fitting (n : ℕ) (t : DivisionTables) : Type 0 where
  pub carried : length t.carried ≡ n
  pub top : length t.top ≡ n
  pub block : length t.block ≡ n
  pub some : 1 ≤ length t.block_loads
  pub few : length t.block_loads ≤ max_blocks
