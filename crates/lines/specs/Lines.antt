-- The lines that a run prints.
--
-- Document 01: refused, it "prints `refused` and the number. .. Otherwise it prints a line for each rank: rank, mark, parent (`-` if
-- none), load, reach, top, block, block count; then bound and volume." Each line ends with a newline, the last one too.
-- Document 02, Paper 4: "The program's last line continues with `share`, the quotient, and the remainder, separated by spaces."
-- Assumes nothing.
use Rattle.std.specs.Prelude.{List, [], ◌++◌, ℕ, zero, suc, get_or}
use Rattle.decimal.specs.Ascii.{ascii}
use Rattle.decimal.specs.Decimal.{decimal}
use Rattle.lines.specs.Line.{spaced, newlined, line_text}
use Rattle.share.specs.declared.Share.{Share}
use Rattle.cost.specs.declared.Totals.{Totals}

unfoldable pub refused_text : ℕ → List ℕ
refused_text k = ascii "refused " ++ newlined (decimal k)

-- the line of rank x, by the order, the net and the figures of its report
unfoldable pub rank_text : (order parents weights reach top block block_count : List ℕ) → ℕ → List ℕ
rank_text order parents weights reach top block block_count x =
    line_text x (get_or order x 0) (get_or parents x 0) (get_or weights x 0) (get_or reach x 0) (get_or top x 0) (get_or block x 0) (get_or block_count x 0)

-- the lines of the ranks below n
unfoldable pub lines_below : (ℕ → List ℕ) → ℕ → List ℕ
lines_below line zero = []
lines_below line (suc x) = lines_below line x ++ line x

-- "`share`, the quotient, and the remainder, separated by spaces"
unfoldable pub share_text : Share → List ℕ
share_text share = ascii "share " ++ spaced (decimal share.quotient) ++ newlined (decimal share.remainder)

-- "then bound and volume", and the share
unfoldable pub totals_text : Totals → List ℕ
totals_text totals = ascii "bound " ++ spaced (decimal totals.bound) ++ ascii "volume " ++ spaced (decimal totals.volume) ++ share_text totals.share
