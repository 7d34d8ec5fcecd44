-- What taking a list into a net asks and promises. No public contract cites this.
-- Assumes nothing.
use Rattle.std.specs.Prelude.{◌≡◌, List, ◌++◌, ℕ, ◌+◌, ◌*◌, ◌^◌, ◌≤◌, ◌<◌, length, get_or}
use Rattle.game.specs.Edge.{ties, edges}
use Rattle.game.specs.Game.{forest}
use Rattle.game.specs.Tree.{links}
use Rattle.game.specs.Net.{weights}
use Rattle.refusal.specs.Limits.{max_rows}
use Rattle.refusal.specs.Refusal.{first_fault}
use Rattle.bucket.specs.PlacingSteps.{upper_counts}
use Rattle.growth.specs.Work.{work_of, cleared}
use Rattle.insert.specs.Putting.{Table}

-- a list can be taken in: it has no fault, and the work tables have room for it
pub record Extendable (p xs ends jump lower : List ℕ) : Type 0 where
  pub table : Table p
  pub faultless : first_fault (length p) (ties xs) ≡ 0
  pub long : length ends ≡ length p
  pub long_jump : length jump ≡ length p
  pub room : length p + length (edges xs) ≤ length lower
  pub small : length lower ≤ 17_000_000

-- its rows can be charged: no entry grows too large
pub record Weighable (p weights xs : List ℕ) : Type 0 where
  pub long : length weights ≡ length p
  pub light : (v : ℕ) → get_or weights v 0 + max_rows * length (ties xs) < 2 ^ 32

-- it is counted by upper end, and its rows are charged
pub record Counted (p xs ends jump : List ℕ) : Type 0 where
  pub counts : ends ≡ upper_counts (length p) (edges xs)
  pub charged : jump ≡ weights (length p) (ties xs)

-- and then the parents are those of the elimination game on the old links and the new edges
pub record Extends (p xs ends jump lower p' ends' jump' lower' : List ℕ) : Type 0 where
  pub grown : p' ≡ forest (length p) (links p ++ edges xs)
  pub clear : work_of ends' jump' lower' ≡ cleared (work_of ends jump lower)
