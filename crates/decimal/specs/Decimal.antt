-- A number as text: its decimal digits in ASCII, the highest first, with no zero in front.
-- Assumes nothing.
use Rattle.std.specs.Prelude.{cond, List, [], ◌∷◌, ◌++◌, ℕ, zero, suc, ◌+◌, ◌/◌, ◌%◌, ltb}

-- the last digits of x, as many as it has or as the fuel allows; '0' is 48
unfoldable pub digits : (fuel x : ℕ) → List ℕ
digits zero x = []
digits (suc fuel) x =
    let higher : List ℕ = digits fuel (x / 10) in
    cond (ltb x 10) [] higher ++ ((48 + x % 10) ∷ [])

-- all of them: a number has no more digits than its value and one
unfoldable pub decimal : ℕ → List ℕ
unfolding digits
decimal x = digits (suc x) x
