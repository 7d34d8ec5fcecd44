-- Two tables of one length, put together entry by entry.
-- Assumes nothing.
use mathlib.Core.Path.{◌≡◌, refl, ap}
use mathlib.Core.List.{List, [], ◌∷◌, zip_with}
use Prim.Native.Nat.{ℕ, zero, suc}
use native.Mathlib.Omega.{arith}
use lib.ListN.{length, get_or}

module _ {A B C : Type 0} (f : A → B → C) where
  pub zip_length : (xs : List A) (ys : List B) → length xs ≡ length ys → length (zip_with f xs ys) ≡ length xs
  unfolding zip_with
  zip_length [] ys h = refl
  zip_length (x ∷ xs) [] h = absurd (omega arith)
  zip_length (x ∷ xs) (y ∷ ys) h = ap suc (zip_length xs ys (omega arith))

  pub zip-entry : (xs : List A) (ys : List B) (i : ℕ) (a : A) (b : B) → length xs ≡ length ys → get_or (zip_with f xs ys) i (f a b) ≡ f (get_or xs i a) (get_or ys i b)
  unfolding zip_with
  zip-entry [] [] i a b h = refl
  zip-entry [] (y ∷ ys) i a b h = absurd (omega arith)
  zip-entry (x ∷ xs) [] i a b h = absurd (omega arith)
  zip-entry (x ∷ xs) (y ∷ ys) zero a b h = refl
  zip-entry (x ∷ xs) (y ∷ ys) (suc i) a b h = zip-entry xs ys i a b (omega arith)
