-- What the steps of printing promise each other, and a run. A run's own promise does not speak of it: that is on its text alone.
-- Assumes nothing.
use Rattle.std.specs.Prelude.{◌≡◌, List, ◌++◌, ℕ, ◌+◌, ◌*◌, ◌≤◌, length}
use Rattle.refusal.specs.Limits.{max_vertices}
use Rattle.refusal.specs.Verdict.{Verdict, accepted, refused}
use Rattle.cost.specs.declared.Totals.{Totals}
use Rattle.lines.specs.FieldSteps.{entry_room, figure_room}
use Rattle.lines.specs.Lines.{refused_text, totals_text}

-- the room of the share, and of the last line, which the share ends: three words, two numbers of 64 bits and two of 32
abbrev pub share_room : ℕ
share_room = 6 + 2 * entry_room

abbrev pub totals_room : ℕ
totals_room = 13 + 2 * figure_room + share_room

-- the columns of the printed table, as long as the order
pub record Columns (order p w r t b c : List ℕ) : Type 0 where
  pub few : length order ≤ max_vertices
  pub parents : length p ≡ length order
  pub weights : length w ≡ length order
  pub reach : length r ≡ length order
  pub top : length t ≡ length order
  pub block : length b ≡ length order
  pub block_count : length c ≡ length order

-- what is printed of a report's answer, behind the lines of the ranks if it is accepted
unfoldable pub answer_text : Verdict Totals → List ℕ → List ℕ
answer_text (accepted totals) lines = lines ++ totals_text totals
answer_text (refused k) lines = refused_text k
