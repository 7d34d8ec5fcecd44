-- The lines of the ranks, put one behind the other, and what follows them.
-- Assumes nothing.
use mathlib.Core.Path.{◌≡◌, sym, subst}
use mathlib.Core.List.{List}
use Prim.Native.Nat.{ℕ, ◌+◌, ◌*◌, ◌≤◌}
use native.Mathlib.Numerals.{add-one}
use native.Mathlib.Omega.{arith}
use Rattle.decimal.specs.Put.{PutText}
use Rattle.decimal.proofs.Runs.{put-none, put_on}
use Rattle.refusal.specs.Verdict.{Verdict, accepted, refused}
use Rattle.cost.specs.declared.Totals.{Totals}
use Rattle.lines.specs.FieldSteps.{line_room}
use Rattle.lines.specs.Lines.{refused_text, lines_below, totals_text}
use Rattle.lines.specs.LineSteps.{answer_text}

-- the lines of the ranks below x stand in a table, up to `end`
pub record Lined (line : ℕ → List ℕ) (was now : List ℕ) (x end : ℕ) : Type 0 where
  pub short : end ≤ line_room * x
  pub put : PutText was 0 (lines_below line x) now end

pub lined-none : (line : ℕ → List ℕ) (was : List ℕ) → Lined line was was 0 0
unfolding lines_below
lined-none line was = record { short = omega arith; put = put-none was 0 (omega arith) }

module _ {line : ℕ → List ℕ} {was mid : List ℕ} {x between : ℕ} (l : Lined line was mid x between) where
  -- one more
  pub lined-next : {now : List ℕ} {end : ℕ} → PutText mid between (line x) now end × (end ≤ between + line_room) → Lined line was now (x + 1) end
  unfolding lines_below
  lined-next q = record { short = omega (arith, l.short, q.1); put = rw add-one (put_on l.put q.0) }

-- what is printed of a report's answer
module _ {q : Verdict Totals} (lines : List ℕ) {was now : List ℕ} {end : ℕ} where
  pub put-accepted : {mid : List ℕ} {between : ℕ} {t : Totals} → q ≡ accepted t → PutText was 0 lines mid between → PutText mid between (totals_text t) now end
      → PutText was 0 (answer_text q lines) now end
  unfolding answer_text
  put-accepted e p l = subst (λ (a : Verdict Totals). PutText was 0 (answer_text a lines) now end) (sym e) (put_on p l)

  pub put-refusal : {k : ℕ} → q ≡ refused k → PutText was 0 (refused_text k) now end → PutText was 0 (answer_text q lines) now end
  unfolding answer_text
  put-refusal e p = subst (λ (a : Verdict Totals). PutText was 0 (answer_text a lines) now end) (sym e) p
