-- Refusal 30 of document 01: "the table of a net that the call works from .. breaks the rule of 7, or its loads sum above
-- 16,000,000", which Paper 6 of document 02 makes 96,000,000. Nothing else damages a net: links that no edge made, and weights beside no
-- link, are sound.
-- Assumes nothing.
use Rattle.std.specs.Prelude.{Bool, not, ◌||◌, List, ℕ, ltb}
use Rattle.game.specs.Tree.{sound}
use Rattle.game.specs.Net.{Net, total}
use Rattle.refusal.specs.Limits.{max_total}

-- of a table of parents and a total
unfoldable pub damaged_by : List ℕ → ℕ → Bool
damaged_by parents sum = not (sound parents) || ltb max_total sum

unfoldable pub damaged : Net → Bool
damaged net = damaged_by net.parents (total net)
