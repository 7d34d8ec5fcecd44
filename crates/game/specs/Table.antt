-- Tables of numbers as lists: a table made from a rule, a table's sum, and the tests and choices that the definitions go by.
-- Assumes nothing.
use Rattle.std.specs.Prelude.{Bool, true, false, ◌||◌, cond, List, [], ◌∷◌, ℕ, zero, suc, ◌+◌, ◌<◌, eqb, length, get_or}

-- f i, f (i + 1), .. : n entries
unfoldable pub tabulate_from : {A : Type 0} → ℕ → ℕ → (ℕ → A) → List A
tabulate_from i zero f = []
tabulate_from i (suc n) f = f i ∷ tabulate_from (suc i) n f

-- the table f 0 .. f (n − 1)
unfoldable pub tabulate : {A : Type 0} → ℕ → (ℕ → A) → List A
unfolding tabulate_from
tabulate n f = tabulate_from 0 n f

unfoldable pub sum : List ℕ → ℕ
sum [] = 0
sum (x ∷ xs) = x + sum xs

unfoldable pub member : ℕ → List ℕ → Bool
member v [] = false
member v (w ∷ s) = eqb v w || member v s

-- 1 if the test holds, else 0
unfoldable pub one_if : Bool → ℕ
one_if true = 1
one_if false = 0

-- how many entries pass the test
unfoldable pub count : {A : Type 0} → (A → Bool) → List A → ℕ
unfolding one_if
count t [] = 0
count t (x ∷ xs) = one_if (t x) + count t xs

-- some entry passes the test
unfoldable pub some_entry : {A : Type 0} → (A → Bool) → List A → Bool
some_entry t [] = false
some_entry t (x ∷ xs) = t x || some_entry t xs

-- the entries that pass the test, in order
unfoldable pub filtered : {A : Type 0} → (A → Bool) → List A → List A
filtered t [] = []
filtered t (x ∷ xs) = let rest : List _ = filtered t xs in cond (t x) (x ∷ rest) rest

-- each entry is below m: ranks are below n, bytes below 256, words below 2 ^ 32
pub record Below (m : ℕ) (xs : List ℕ) : Type 0 where
  pub each : (i : ℕ) → i < length xs → get_or xs i 0 < m
