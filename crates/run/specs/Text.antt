-- What a run prints: its lines, or the refusal.
-- Assumes nothing.
use Rattle.std.specs.Prelude.{List, ℕ}
use Rattle.files.specs.Files.{Files, order, limit, blocks}
use Rattle.run_report.specs.Text.{report_text, decided_text}
use Rattle.run.specs.Run.{ranked_ties, run_refusal}

-- what a run prints
unfoldable pub run_text : Files → List ℕ
run_text f = decided_text (run_refusal f) (report_text (order f) (ranked_ties f) (limit f) (blocks f))
