-- Laws of the refusals' numbers, and of a call that ends at another's refusal.
-- Assumes nothing.
use mathlib.Core.Path.{◌≡◌, ◌∙◌, ap}
use Prim.Native.Nat.{ℕ}
use native.Mathlib.Omega.{arith}
use Rattle.std.specs.Prelude.{Result}
use Rattle.std.specs.Result.{IsErrAnd}
use Rattle.std.proofs.lemmas.Result.{err_from_is_err_and}
use Rattle.refusal.specs.Outcome.{ended, decided}
use Rattle.refusal.specs.Numbers.{number_of, code, verdict}
use Rattle.refusal.proofs.Ends.{ends-refused}
use Rattle.refusal.specs.declared.kinds.Refusal.{Refusal}
use Rattle.refusal.specs.declared.kinds.Refusal.TheVariants.{BadCount, WrongLength, BadOrder, BadVertex, Loop, BadFile, BadParent, BadLimit, Full, UnlikeCounts, TooHeavy, OtherEdges, Damaged, Related, BadRows}

-- no number is 0
pub number-positive : (r : Refusal) → number_of r ≡ 0 → ⊥
number-positive BadCount e = omega arith
number-positive WrongLength e = omega arith
number-positive BadOrder e = omega arith
number-positive BadVertex e = omega arith
number-positive Loop e = omega arith
number-positive BadFile e = omega arith
number-positive BadParent e = omega arith
number-positive BadLimit e = omega arith
number-positive Full e = omega arith
number-positive UnlikeCounts e = omega arith
number-positive TooHeavy e = omega arith
number-positive OtherEdges e = omega arith
number-positive Damaged e = omega arith
number-positive Related e = omega arith
number-positive BadRows e = omega arith

-- where a `?` hands on a refusal, the number is the same
pub handed-on : {X : Type 0} (r : Result X Refusal) (e : Refusal) {k : ℕ} → IsErrAnd r (λ y. y ≡ e) → number_of e ≡ k → code r ≡ k
handed-on r e q h = let p = err_from_is_err_and r q in rw p.1 (ap number_of p.2 ∙ h)

-- and the call ends as it has to: refused by that number, with the tables as they were
pub ends-handed : {X A : Type 0} (k : ℕ) (values : X) (was new : A) (r : Result X Refusal) (e : Refusal) {t : A}
    → IsErrAnd r (λ y. y ≡ e) → number_of e ≡ k → t ≡ was → ended (verdict r) t ≡ decided k values was new
unfolding verdict
ends-handed k values was new r e q h s =
    let p = err_from_is_err_and r q in
    rw p.1 (ends-refused k values was new (ap number_of p.2 ∙ h) (λ z. number-positive e (h ∙ z)) s)
