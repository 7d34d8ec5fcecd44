-- What a call leaves: its verdict and every table that it was lent to write.
-- "The answer is the number alone and every table stays as it was": so an outcome is decided by the number.
-- Assumes nothing.
use Rattle.std.specs.Prelude.{ℕ}
use Rattle.refusal.specs.Refusal.{unless}
use Rattle.refusal.specs.Verdict.{Verdict, judged}

-- of a call that hands back values X and writes tables A
pub record Outcome (X A : Type 0) : Type 0 where
  pub verdict : Verdict X
  pub tables : A

-- what a call ended with
abbrev pub ended : {X A : Type 0} → Verdict X → A → Outcome X A
ended v t = record { verdict = v; tables = t }

-- what it has to end with: refused by the number k with the tables as they were, or accepted (0) with its values and the new ones
unfoldable pub decided : {X A : Type 0} → ℕ → X → A → A → Outcome X A
decided k values was new = ended (judged k values) (unless k was new)

-- the outcome of a call that hands back nothing
abbrev pub Done : Type 0 → Type 0
Done A = Outcome (Unit {0}) A

abbrev pub done : {A : Type 0} → ℕ → A → A → Done A
done k was new = decided k tt was new
