-- What the counting of blocks promises, step by step. No public promise speaks of it.
-- Assumes nothing.
use Rattle.std.specs.Prelude.{◌≡◌, cond, List, [], ◌∷◌, ◌++◌, map, ℕ, zero, suc, ◌+◌, ◌≤◌, ◌<◌, eqb, length, get_or, take}
use Rattle.game.specs.Table.{tabulate, member}
use Rattle.game.specs.Edge.{Edge}
use Rattle.refusal.specs.Limits.{max_vertices, max_edges}
use Rattle.sorting.specs.Sorted.{bucket_of}
use Rattle.bucket.specs.Filed.{Consecutive, Filed}
use Rattle.reach_slots.specs.Given.{lower_counts}
use Rattle.refusal.specs.DivisionLimits.{max_blocks}
use Rattle.block_count.specs.WaitingSteps.{unmet}
use Rattle.block_count.specs.BlockCount.{different, block_count_of}
use Rattle.block_count.specs.Taken.{edges_taken_of}
use Rattle.block_count.specs.declared.counting.Met.{Met}
use Rattle.block_count.specs.declared.counting.Known.{Known}

-- the block of a vertex of which some edge leads up
unfoldable pub own_block : ℕ → ℕ → List ℕ
own_block zero b = []
own_block (suc w) b = b ∷ []

-- the blocks that a vertex meets: its own, if an edge leads up, and those of its lower neighbours
unfoldable pub met_blocks : List ℕ → ℕ → ℕ → List ℕ → List ℕ
met_blocks block y up lower = own_block up (get_or block y 0) ++ map (λ (u : ℕ). get_or block u 0) lower

-- no block has the stamp yet
pub record Fresh (stamps : List ℕ) (stamp : ℕ) : Type 0 where
  pub older : (j : ℕ) → get_or stamps j 0 < stamp

-- the blocks of a list, and no others, have the stamp, and r is how many they are
pub record Stamped (stamps : List ℕ) (stamp : ℕ) (bs : List ℕ) (r : ℕ) : Type 0 where
  pub known : (j : ℕ) → get_or stamps j 0 ≤ stamp
  pub each : (j : ℕ) → j < length stamps → eqb (get_or stamps j 0) stamp ≡ member j bs
  pub counted : r ≡ different (length stamps) bs

-- what counting at y is given: its lower neighbours, the block of each vertex, and a stamp for each block, all of them older
pub record CountableAt (y k : ℕ) (lower block stamps : List ℕ) : Type 0 where
  pub inside : y < length block
  pub few : length block ≤ max_vertices
  pub neighbours : (i : ℕ) → i < length lower → get_or lower i 0 < length block
  pub blocks : (x : ℕ) → x < length block → get_or block x 0 < k
  pub all : length stamps ≡ k
  pub small : k ≤ max_blocks
  pub fresh : Fresh stamps (y + 1)

-- what the count of k blocks found at a vertex: it read its lower neighbours until all were met, no further
pub record MetAt (k : ℕ) (block : List ℕ) (y up : ℕ) (lower : List ℕ) (count read : ℕ) : Type 0 where
  pub within : read ≤ length lower
  pub counted : count ≡ different k (met_blocks block y up (take read lower))
  pub ended : read < length lower → count ≡ k
  pub needed : (i : ℕ) → i < read → different k (met_blocks block y up (take i lower)) < k

pub record Counts (k : ℕ) (block : List ℕ) (y up : ℕ) (lower stamps : List ℕ) (r : Met) : Type 0 where
  pub known : (j : ℕ) → get_or stamps j 0 ≤ y + 1
  pub found : MetAt k block y up lower r.count r.read

-- what is known of a vertex when its bucket is counted: how many of its edges are taken, and what its count waits for
abbrev pub known : (taken pending : ℕ) → Known
known t p = record { taken = t; pending = p }

unfoldable pub known_at : (k up size count read : ℕ) → Known
known_at k up size count read =
    cond (eqb count k) (cond (eqb k 1) (known 1 0) (cond (eqb up 0) (known read 0) (known 0 (read + unmet)))) (known (up + size) 0)

pub record CountedAt (k : ℕ) (block : List ℕ) (y up : ℕ) (lower : List ℕ) (count taken pending : ℕ) : Type 0 where
  pub read : ℕ
  pub met : MetAt k block y up lower count read
  pub so_known : known taken pending ≡ known_at k up (length lower) count read

-- What counting is given: buckets of lower neighbours, how many edges lead up from each vertex and its block, and a stamp for each block.
pub record Bucketed (ends lower upward block : List ℕ) (k : ℕ) (counts pending stamps : List ℕ) : Type 0 where
  pub buckets : Consecutive ends lower
  pub neighbours : (y i : ℕ) → y < length ends → i < get_or ends y 0 → get_or lower i 0 < length ends
  pub short : (y : ℕ) → y < length ends → get_or ends y 0 ≤ max_edges
  pub counted : length upward ≡ length ends
  pub few_upward : (y : ℕ) → y < length ends → get_or upward y 0 ≤ max_edges
  pub blocked : length block ≡ length ends
  pub blocks : (x : ℕ) → x < length ends → get_or block x 0 < k
  pub counts_long : length counts ≡ length ends
  pub pending_long : length pending ≡ length ends
  pub all : length stamps ≡ k
  pub small : k ≤ max_blocks
  pub fresh : Fresh stamps 1

-- and what it leaves
pub record Counted (k : ℕ) (ends lower upward block counts taken pending : List ℕ) : Type 0 where
  pub each : (y : ℕ) → y < length ends → CountedAt k block y (get_or upward y 0) (bucket_of ends lower y) (get_or counts y 0) (get_or taken y 0) (get_or pending y 0)

-- What writing the block counts is given: the edges of a graph, filed by their upper end and counted by their lower, one of k blocks for
-- each vertex, and tables that fit.
pub record Countable (es : List Edge) (upward block : List ℕ) (k : ℕ) (ends lower counts pending : List ℕ) : Type 0 where
  pub few : length block ≤ max_vertices
  pub few_edges : length es ≤ max_edges
  pub filed : Filed (length block) es ends lower
  pub counted : upward ≡ lower_counts (length block) es
  pub some : 0 < k
  pub small : k ≤ max_blocks
  pub blocks : (x : ℕ) → x < length block → get_or block x 0 < k
  pub counts_long : length counts ≡ length block
  pub pending_long : length pending ≡ length block

-- and what it leaves
pub record Writes (es : List Edge) (block : List ℕ) (k : ℕ) (counts taken : List ℕ) : Type 0 where
  pub counted : counts ≡ tabulate (length block) (block_count_of k block es)
  pub took : taken ≡ tabulate (length block) (edges_taken_of k block es)
