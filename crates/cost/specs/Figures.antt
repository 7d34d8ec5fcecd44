-- The figures of a report: what a division of a net costs the blocks that share its vertices.
--
-- Document 01, Report: it "answers bound, the sum of the reaches of cut marks, and volume, the sum of (block count − 1) over marks
-- with a tie."
-- All are defined over tables: parents p, the edges es, the tops of the groups, the block of each vertex, and the number k of blocks.
-- A tie is an edge here; the volume is the communication volume of the edge partition.
-- Assumes nothing.
use Rattle.std.specs.Prelude.{Bool, not, ◌&&◌, cond, List, ℕ, ◌-◌, eqb, length, get_or}
use Rattle.game.specs.Table.{tabulate, sum}
use Rattle.game.specs.Edge.{Edge}
use Rattle.game.specs.Game.{absent}
use Rattle.game.specs.Net.{Net, total, reach}
use Rattle.divide.specs.Divide.{divided}
use Rattle.block_count.specs.BlockCount.{block_count_of}
use Rattle.share.specs.declared.Share.{Share}
use Rattle.share.specs.Share.{even_share}
use Rattle.cost.specs.declared.Totals.{Totals}

-- a cut mark: the top of its group, although it has a parent
unfoldable pub is_cut : List ℕ → List ℕ → ℕ → Bool
is_cut p top x = eqb (get_or top x 0) x && not (eqb (get_or p x absent) absent)

-- "bound, the sum of the reaches of cut marks"
unfoldable pub bound : List ℕ → List Edge → List ℕ → ℕ
bound p es top = sum (tabulate (length p) (λ (x : ℕ). cond (is_cut p top x) (reach p es x) 0))

-- "volume, the sum of (block count − 1) over marks with a tie": a vertex without an edge has block count 0, and adds 0 − 1 = 0
unfoldable pub volume : ℕ → ℕ → List ℕ → List Edge → ℕ
volume n k block es = sum (tabulate n (λ (x : ℕ). block_count_of k block es x - 1))

-- the two of a net, divided with limit B into k blocks, taken with the edges es
unfoldable pub bound_of : Net → List Edge → ℕ → ℕ → ℕ
bound_of net es B k = bound net.parents es (divided net B k).top

unfoldable pub volume_of : Net → List Edge → ℕ → ℕ → ℕ
volume_of net es B k = volume (length net.parents) k (divided net B k).block es

-- document 02, Paper 4: "the even share as the total divided by k"
unfoldable pub share_of : Net → ℕ → Share
share_of net k = even_share (total net) k

-- what Report hands back, accepted: document 01, it "answers bound .. and volume", document 02, Paper 4, and "the even share"; refused,
-- "the answer is the number alone". This is the code's own record of the three
abbrev pub totals : (bound volume : ℕ) → Share → Totals
totals b v s = record { bound = b; volume = v; share = s }

unfoldable pub totals_of : Net → List Edge → ℕ → ℕ → Totals
totals_of net es B k = totals (bound_of net es B k) (volume_of net es B k) (share_of net k)
