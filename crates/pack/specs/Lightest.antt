-- The block that a group is packed into.
--
-- Document 01, Divide: "Groups go by rising top into the block with the least load so far, of equals the lowest number."
-- Blocks count from 0.
-- Assumes nothing.
use Rattle.std.specs.Prelude.{List, ℕ, ltb, length, get_or}
use Rattle.game.specs.Table.{tabulate}
use Rattle.cut.specs.Cut.{best}

-- "the block with the least load so far, of equals the lowest number"
unfoldable pub lightest : List ℕ → ℕ
unfolding best tabulate
lightest loads = best (λ (i j : ℕ). ltb (get_or loads i 0) (get_or loads j 0)) 0 (tabulate (length loads) (λ (i : ℕ). i))
