-- An answer as a verdict, by what number its refusal has. Of the calls' own refusals it is the verdict of `refusal/specs/Numbers`
-- (`verdict-taken`).
-- Assumes nothing.
use Rattle.std.specs.Prelude.{ℕ, Result, Ok, Err}
use Rattle.refusal.specs.Verdict.{Verdict, accepted, refused}

unfoldable pub verdict_by : {X E : Type 0} → (E → ℕ) → Result X E → Verdict X
verdict_by numbered (Ok values) = accepted values
verdict_by numbered (Err r) = refused (numbered r)
