-- How many of a vertex's edges the count of its blocks takes.
--
-- Document 02, Paper 3: "let the count for a mark end as soon as all k have been met. Report writes one more table of n: for each rank,
-- how many of its ties, in list order, the count took, up to and with the first that completes the k, or all if none does."
-- Assumes nothing.
use Rattle.std.specs.Prelude.{◌≡◌, Bool, cond, List, [], ◌∷◌, ℕ, suc, ◌≤◌, ◌<◌, eqb, length, take}
use Rattle.game.specs.Edge.{Edge}
use Rattle.block_count.specs.BlockCount.{blocks_at, different}

-- all k blocks are among those met
unfoldable pub all_met : ℕ → List ℕ → Bool
all_met k met = eqb (different k met) k

-- of edges in these blocks, how many the count takes when it has met others before
unfoldable pub taken_after : (k : ℕ) (met blocks : List ℕ) → ℕ
taken_after k met [] = 0
taken_after k met (b ∷ bs) = suc (cond (all_met k (b ∷ met)) 0 (taken_after k (b ∷ met) bs))

-- "for each rank, how many of its ties, in list order, the count took"
unfoldable pub edges_taken_of : ℕ → List ℕ → List Edge → ℕ → ℕ
edges_taken_of k block es x = taken_after k [] (blocks_at block es x)

-- What that says of the blocks of a vertex's edges: those of the edges taken are all that there are, no fewer edges meet all k, and where
-- all of its edges do not, all are taken. No other number does so (`taken-once`).
pub record CountEnds (k : ℕ) (blocks : List ℕ) (taken : ℕ) : Type 0 where
  pub within : taken ≤ length blocks
  pub enough : different k (take taken blocks) ≡ different k blocks
  pub no_fewer : (t : ℕ) → t < taken → different k (take t blocks) < k
  pub or_all : different k blocks < k → taken ≡ length blocks
