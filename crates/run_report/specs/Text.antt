-- What a run prints of an order and ties, once its files are not refused: the lines of the report, or a refusal.
-- Assumes nothing.
use Rattle.std.specs.Prelude.{List, ◌++◌, ℕ, length}
use Rattle.game.specs.Edge.{Edge, Tie, without_rows}
use Rattle.game.specs.Net.{Net, net_of}
use Rattle.refusal.specs.Refusal.{unless}
use Rattle.cost.specs.Figures.{totals_of}
use Rattle.report_write.specs.Written.{Written, figures}
use Rattle.lines.specs.Lines.{refused_text, rank_text, lines_below, totals_text}

-- what an accepted run prints, of an order, the ties by rank, and the limits
unfoldable pub report_text : (order : List ℕ) → List Tie → (B k : ℕ) → List ℕ
report_text order ts B k =
    let n : ℕ = length order in
    let net : Net = net_of n ts in
    let es : List Edge = without_rows ts in
    let w : Written = figures net B k es in
    lines_below (rank_text order net.parents net.weights w.reach w.division.top w.division.block w.block_count) n
    ++ totals_text (totals_of net es B k)

-- what is printed where the number of a refusal decides: the refusal, or at 0 the report
unfoldable pub decided_text : ℕ → List ℕ → List ℕ
decided_text code report = unless code (refused_text code) report
