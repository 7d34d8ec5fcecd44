-- The fields of a printed line, and the line of a rank.
--
-- Document 01: a run "prints a line for each rank: rank, mark, parent (`-` if none), load, reach, top, block, block count".
-- Assumes nothing.
use Rattle.std.specs.Prelude.{cond, List, ◌++◌, ℕ, eqb}
use Rattle.game.specs.Game.{absent}
use Rattle.decimal.specs.Ascii.{ascii}
use Rattle.decimal.specs.Decimal.{decimal}

-- a field of a line, and the space behind it
unfoldable pub spaced : List ℕ → List ℕ
spaced field = field ++ ascii " "

-- the last field of a line, and the newline behind it
unfoldable pub newlined : List ℕ → List ℕ
newlined field = field ++ ascii "\n"

-- "parent (`-` if none)"
unfoldable pub parent_text : ℕ → List ℕ
parent_text p = cond (eqb p absent) (ascii "-") (decimal p)

unfoldable pub line_text : (rank vertex parent weight reach top block block_count : ℕ) → List ℕ
line_text rank vertex parent weight reach top block block_count =
    spaced (decimal rank)
    ++ spaced (decimal vertex)
    ++ spaced (parent_text parent)
    ++ spaced (decimal weight)
    ++ spaced (decimal reach)
    ++ spaced (decimal top)
    ++ spaced (decimal block)
    ++ newlined (decimal block_count)
