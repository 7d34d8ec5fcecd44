-- The limits of a division, and what goes beyond them: refusals 8 and 22, which Divide, Report and a run of blocks share.
-- Assumes nothing.
use Rattle.std.specs.Prelude.{Bool, ◌||◌, List, ℕ, ltb}
use Rattle.game.specs.Table.{some_entry}
use Rattle.refusal.specs.Limits.{outside}

-- "B not 1 to 16,000,000"; document 02, Paper 6: "The bounds of 16,000,000 on totals and on B become 96,000,000 rows"
abbrev pub max_limit : ℕ
max_limit = 96_000_000

-- "k not 1 to 1,000"
abbrev pub max_blocks : ℕ
max_blocks = 1_000

-- 8, of a limit B and a block count k
unfoldable pub bad_limits : ℕ → ℕ → Bool
unfolding outside
bad_limits B k = outside max_limit B || outside max_blocks k

-- 22: "a mark's load is above B, so that no cutting can hold B"
unfoldable pub too_heavy : ℕ → List ℕ → Bool
unfolding some_entry
too_heavy B w = some_entry (λ (v : ℕ). ltb B v) w
