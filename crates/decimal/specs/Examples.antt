-- Some numbers as text, computed from the definition.
-- Assumes nothing.
use Rattle.std.specs.Prelude.{◌≡◌, refl, List, [], ◌∷◌, ℕ}
use Rattle.decimal.specs.Ascii.{ascii}
use Rattle.decimal.specs.Decimal.{decimal}

pub computed : List (List ℕ)
computed = decimal 0 ∷ decimal 7 ∷ decimal 10 ∷ decimal 16_000_000 ∷ decimal 4_294_967_295 ∷ []

pub texts : List (List ℕ)
texts = ascii "0" ∷ ascii "7" ∷ ascii "10" ∷ ascii "16000000" ∷ ascii "4294967295" ∷ []

pub examples : computed ≡ texts
unfolding computed texts decimal ascii
examples = refl
