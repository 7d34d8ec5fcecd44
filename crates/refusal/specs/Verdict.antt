-- What a call says. Document 01: "The answer is the number alone"; accepted, it is what the call has to hand back.
-- A verdict tells the two apart, whatever the number; the paper's number is read off it.
-- Assumes nothing.
use Rattle.std.specs.Prelude.{Bool, true, false, ℕ, zero, suc}

-- accepted with the call's values, or refused by a number
pub data Verdict (X : Type 0) : Type 0 where
  accepted : (values : X) → Verdict X
  refused : (number : ℕ) → Verdict X

-- the verdict that the first number that applies decides: 0 is none
unfoldable pub judged : {X : Type 0} → ℕ → X → Verdict X
judged zero values = accepted values
judged (suc k) values = refused (suc k)

-- 0 for an accepted call, else the number of the refusal
unfoldable pub number : {X : Type 0} → Verdict X → ℕ
number (accepted values) = 0
number (refused k) = k

unfoldable pub is_accepted : {X : Type 0} → Verdict X → Bool
is_accepted (accepted values) = true
is_accepted (refused k) = false
