-- The decimal text of a number: the text of its tenth and the last digit; and how long it is at most.
-- Assumes nothing.
use mathlib.Core.Path.{◌≡◌, ap}
use mathlib.Core.Logic.{by_cases}
use mathlib.Core.Bool.{cond}
use mathlib.Core.List.{List, [], ◌∷◌, ◌++◌}
use Prim.Native.Nat.{ℕ, zero, suc, ◌+◌, ◌/◌, ◌%◌, ◌^◌, ◌≤◌, ◌<◌}
use native.Mathlib.Decide.{dec_lt}
use native.Mathlib.Nat.{mod-eq_of_lt, pow-suc}
use native.Mathlib.Omega.{arith}
use lib.Dec.{ltb}
use lib.ListN.{length, length-append}
use borrow.Author.Tests.{lt-ltb, le-ltb}
use Rattle.decimal.specs.Decimal.{digits, decimal}

-- a number below 10 is one digit
pub decimal_digit : (x : ℕ) → x < 10 → decimal x ≡ (48 + x) ∷ []
unfolding decimal digits
decimal_digit x h = rw (lt-ltb x 10 h, mod-eq_of_lt h)

-- more fuel than the value makes no difference
fuelled : (f g x : ℕ) → x < f → x < g → digits f x ≡ digits g x
unfolding digits
fuelled zero g x h k = absurd (omega arith)
fuelled (suc f) zero x h k = absurd (omega arith)
fuelled (suc f) (suc g) x h k =
    by_cases (dec_lt x 10)
    (λ (l : x < 10). rw (lt-ltb x 10 l))
    (λ (l : x < 10 → ⊥). ap (λ (ds : List ℕ). cond (ltb x 10) [] ds ++ ((48 + x % 10) ∷ [])) (fuelled f g (x / 10) (omega arith) (omega arith)))

-- a larger one is its tenth and a digit
pub decimal-more : (x : ℕ) → 10 ≤ x → decimal x ≡ decimal (x / 10) ++ ((48 + x % 10) ∷ [])
unfolding decimal digits
decimal-more x h = rw (le-ltb x 10 h) (ap (λ (ds : List ℕ). ds ++ ((48 + x % 10) ∷ [])) (fuelled x (suc (x / 10)) (x / 10) (omega arith) (omega arith)))

-- a number below a power of ten has no more digits than the power says
pub decimal-short : (k x : ℕ) → x < 10 ^ suc k → length (decimal x) ≤ suc k
decimal-short zero x h = rw (decimal_digit x (omega arith)) (omega arith)
decimal-short (suc k) x h =
    by_cases (dec_lt x 10)
    (λ (l : x < 10). rw (decimal_digit x l) (omega arith))
    (λ (l : x < 10 → ⊥). rw (decimal-more x (omega arith), length-append) (omega (arith, decimal-short k (x / 10) (omega (arith, pow-suc 10 (suc k))))))
