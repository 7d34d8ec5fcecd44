-- What the steps of a tournament ask of each other and hand on. No public promise speaks of it.
-- Assumes nothing.
use Rattle.std.specs.Prelude.{◌≡◌, ◌≢◌, ◌⊎◌, List, ℕ, ◌+◌, ◌*◌, ◌≤◌, ◌<◌, length, get_or}
use Rattle.refusal.specs.DivisionLimits.{max_blocks}

-- the key of a block in a tournament: its load, then its number
abbrev pub key : ℕ → ℕ → ℕ
key load j = load * 1_024 + j

-- r is the lower of a and b
pub record Lower (a b r : ℕ) : Type 0 where
  pub left : r ≤ a
  pub right : r ≤ b
  pub one : (r ≡ a) ⊎ (r ≡ b)

-- of k blocks, node k + j has the key of block j, and a node i below k the lower of the keys at 2i and 2i + 1
pub record Tournament (loads nodes : List ℕ) : Type 0 where
  pub size : length nodes ≡ 2 * max_blocks
  pub leaves : (j : ℕ) → j < length loads → get_or nodes (length loads + j) 0 ≡ key (get_or loads j 0) j
  pub inner : (i : ℕ) → 1 ≤ i → i < length loads → Lower (get_or nodes (2 * i) 0) (get_or nodes (2 * i + 1) 0) (get_or nodes i 0)

-- a tournament that block b has another load in than when it was played
pub record Outdated (b : ℕ) (loads nodes : List ℕ) : Type 0 where
  pub inside : b < length loads
  pub few : length loads ≤ max_blocks
  pub was : List ℕ
  pub size : length loads ≡ length was
  pub others : (j : ℕ) → j ≢ b → get_or loads j 0 ≡ get_or was j 0
  pub played : Tournament was nodes
