-- The blocks of edges, and how many different ones a vertex meets.
--
-- Document 01, Report: "A tie belongs to the block of its lower end. It writes each tie's block, .. and its block count (different
-- blocks among its ties)".
-- Both are defined over tables: the block of each vertex, the edges es, and the number k of blocks. A tie is an edge here.
-- Assumes nothing.
use Rattle.std.specs.Prelude.{List, map, ℕ, get_or}
use Rattle.game.specs.Table.{tabulate, member, count, filtered}
use Rattle.game.specs.Edge.{Edge, touches}
use Rattle.game.specs.Net.{owner}

-- "A tie belongs to the block of its lower end": of the vertex that it is charged to
unfoldable pub edge_block : List ℕ → Edge → ℕ
unfolding owner
edge_block block e = get_or block (owner e) 0

unfoldable pub edge_blocks_of : List ℕ → List Edge → List ℕ
edge_blocks_of block es = map (edge_block block) es

-- the blocks of the edges of x, in the order of the list
unfoldable pub blocks_at : List ℕ → List Edge → ℕ → List ℕ
blocks_at block es x = edge_blocks_of block (filtered (touches x) es)

-- how many different numbers below k a list has
unfoldable pub different : ℕ → List ℕ → ℕ
different k bs = count (λ (j : ℕ). member j bs) (tabulate k (λ (j : ℕ). j))

-- "its block count (different blocks among its ties)"
unfoldable pub block_count_of : ℕ → List ℕ → List Edge → ℕ → ℕ
block_count_of k block es x = different k (blocks_at block es x)
