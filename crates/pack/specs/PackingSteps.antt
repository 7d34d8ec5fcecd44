-- What the steps of packing ask of each other and hand on. No public promise speaks of it.
-- Assumes nothing.
use Rattle.std.specs.Prelude.{◌≡◌, cond, List, map, ℕ, ◌≤◌, ◌<◌, eqb, length, get_or}
use Rattle.game.specs.Table.{tabulate, sum}
use Rattle.refusal.specs.Limits.{max_total}
use Rattle.refusal.specs.DivisionLimits.{max_blocks}
use Rattle.pack.specs.Pack.{loads_below, block_of}

-- What packing is given: tables of one length, at least one block, and groups that come to no more than a net's total.
pub record Packable (tops carried_now block loads : List ℕ) : Type 0 where
  pub told : length carried_now ≡ length tops
  pub sized : length block ≡ length tops
  pub some : 0 < length loads
  pub few : length loads ≤ max_blocks
  pub small : sum (map (λ (x : ℕ). cond (eqb (get_or tops x 0) x) (get_or carried_now x 0) 0) (tabulate (length tops) (λ (x : ℕ). x))) ≤ max_total

-- the loads once all groups are packed
pub record AllPacked (tops carried_now loads : List ℕ) : Type 0 where
  pub table : loads ≡ loads_below (λ (x : ℕ). eqb (get_or tops x 0) x) (λ (x : ℕ). get_or carried_now x 0) (length loads) (length tops)

-- what packing leaves: the loads, and the block of each top
pub record Packed (tops carried_now block loads : List ℕ) : Type 0 where
  pub all : AllPacked tops carried_now loads
  pub each : (x : ℕ) → x < length tops → get_or tops x 0 ≡ x
      → get_or block x 0 ≡ block_of (λ (x : ℕ). eqb (get_or tops x 0) x) (λ (x : ℕ). get_or carried_now x 0) (length loads) x

-- a table of tops: each is of the table, and its own top
pub record Topped (tops : List ℕ) : Type 0 where
  pub inside : (x : ℕ) → x < length tops → get_or tops x 0 < length tops
  pub own : (x : ℕ) → x < length tops → get_or tops (get_or tops x 0) 0 ≡ get_or tops x 0

-- the loads, and the block of each rank
pub record Assigned (tops carried_now block loads : List ℕ) : Type 0 where
  pub all : AllPacked tops carried_now loads
  pub blocks : block
      ≡ tabulate (length tops) (λ (y : ℕ). block_of (λ (x : ℕ). eqb (get_or tops x 0) x) (λ (x : ℕ). get_or carried_now x 0) (length loads) (get_or tops y 0))
