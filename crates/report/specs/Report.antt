-- The call Report: what it refuses, what it writes and what it answers.
--
-- Document 01: "Report divides, and besides takes the net's own ties. .. It writes each tie's block, each rank's reach and its block
-- count .., and answers bound .. and volume .. Two comparison tables, lent for it, end holding the parents and loads of the ties
-- given." Refusals, in order: 1, 2, 8, 30, 4, 5 or 32, 20, 22, 23. "The answer is the number alone and every table stays as it was, but
-- after 23, or a refusal ordered after it, the comparison tables hold what the ties gave."
-- Document 02, Paper 3: "Report writes one more table of n: for each rank, how many of its ties, in list order, the count took".
-- Paper 4: "Report should answer the even share".
-- 30 and 22 look at the net, never at the comparison tables; 20 counts the ties of the list alone.
-- The work tables end as zeros where the comparison was made, at 23 as at acceptance, and stay as they were at every other refusal.
-- Assumes nothing.
use Rattle.std.specs.Prelude.{Bool, ◌||◌, List, [], ◌∷◌, ℕ, length}
use Rattle.game.specs.Edge.{Edge, Tie, ties, edges}
use Rattle.game.specs.Net.{Net, net_of}
use Rattle.refusal.specs.Refusal.{first, unless, wrong_length, not_whole}
use Rattle.refusal.specs.Verdict.{judged}
use Rattle.refusal.specs.Outcome.{Outcome, ended}
use Rattle.growth.specs.Work.{Work, cleared}
use Rattle.divide.specs.Divide.{wrong_tables}
use Rattle.cost.specs.declared.Totals.{Totals}
use Rattle.cost.specs.Figures.{totals_of}
use Rattle.report_write.specs.Written.{Written, figures}
use Rattle.compare.specs.Compare.{wrong_compared, unlike}
use Rattle.report_refusal.specs.Refused.{report_early}

-- every table that Report is lent to write: those of a net, the comparison tables, and the work tables
pub record Lent : Type 0 where
  pub written : Written
  pub compared : Net
  pub work : Work

abbrev pub lent : Written → Net → Work → Lent
lent w c o = record { written = w; compared = c; work = o }

-- 2, of the tables that Divide does not know: n entries for the vertices, m for the edges
unfoldable pub wrong_figures : ℕ → ℕ → Written → Bool
wrong_figures n m was =
    wrong_length (length was.edge_blocks) m || wrong_length (length was.reach) n || wrong_length (length was.block_count) n || wrong_length (length was.edges_taken) n

-- 2: "a table of the wrong length for the call", or a list that is not whole ties
unfoldable pub wrong_lent : Net → ℕ → List ℕ → Lent → Bool
wrong_lent of k xs was =
    let n : ℕ = length of.parents in
    let m : ℕ = length (edges xs) in
    wrong_tables of k was.written.division || wrong_figures n m was.written || wrong_compared n m was.compared was.work || not_whole xs

-- the number for which Report is refused, or 0; 23 comes last
unfoldable pub report_refusal : Net → ℕ → ℕ → List ℕ → Lent → ℕ
report_refusal of B k xs was = first (report_early of B k xs (wrong_lent of k xs was) ∷ unlike of (ties xs) ∷ [])

unfoldable pub report_outcome : Net → ℕ → ℕ → List ℕ → Lent → Outcome Totals Lent
report_outcome of B k xs was =
    let es : List Edge = edges xs in
    let ts : List Tie = ties xs in
    ended
    (judged (report_refusal of B k xs was) (totals_of of es B k))
    (unless (report_early of B k xs (wrong_lent of k xs was)) was
    (lent (unless (unlike of ts) was.written (figures of B k es)) (net_of (length of.parents) ts) (cleared was.work)))
