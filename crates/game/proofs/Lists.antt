-- Lists of ranks: those that pass a test, and lists by rising rank. Two lists by rising rank are one list if they have the same members.
-- Assumes nothing.
use mathlib.Core.Path.{◌≡◌, refl, sym, ap, ap₂, ◌∙◌}
use mathlib.Core.Logic.{⊎_elim}
use mathlib.Core.Bool.{Bool, true, false}
use mathlib.Core.List.Memᴰ
use mathlib.Core.List.{List, [], ◌∷◌, Memᴰ}
use Prim.Native.Nat.{ℕ, suc, ◌≤◌}
use native.Mathlib.Nat.{le_trans, le_of_lt}
use native.Mathlib.Omega.{arith}
use lib.ListN.{length}
use Rattle.game.specs.Table.{filtered}
use Rattle.game.proofs.Bools.{test-cases}

-- by rising rank, from a on
pub data Rising : ℕ → List ℕ → Type 0 where
  done : {a : ℕ} → Rising a []
  more : {a y : ℕ} {ys : List ℕ} → a ≤ y → Rising (suc y) ys → Rising a (y ∷ ys)

-- what passes a test
module _ (t : ℕ → Bool) where
  pub filtered-take : {y : ℕ} (ys : List ℕ) → t y ≡ true → filtered t (y ∷ ys) ≡ y ∷ filtered t ys
  unfolding filtered
  filtered-take ys e = rw e

  pub filtered-leave : {y : ℕ} (ys : List ℕ) → t y ≡ false → filtered t (y ∷ ys) ≡ filtered t ys
  unfolding filtered
  filtered-leave ys e = rw e

  -- is in the list, and passes
  pub filtered-in : (ys : List ℕ) {z : ℕ} → Memᴰ z (filtered t ys) → Memᴰ z ys × (t z ≡ true)
  unfolding filtered
  filtered-in [] m = absurd (Memᴰ.not-nil m)
  filtered-in (y ∷ ys) {z} m =
      test-cases (t y)
      (λ e.
      ⊎_elim (λ (q : z ≡ y). (Memᴰ.head q, ap t q ∙ e)) (λ r. let i = filtered-in ys r in (Memᴰ.tail i.0, i.1))
      (Memᴰ.cases_cons (rw (filtered-take ys e) at m)))
      (λ e. let i = filtered-in ys (rw (filtered-leave ys e) at m) in (Memᴰ.tail i.0, i.1))

  pub in-filtered : {z : ℕ} {ys : List ℕ} → Memᴰ z ys → t z ≡ true → Memᴰ z (filtered t ys)
  in-filtered (Memᴰ.head {xs = ys} q) e = rw (filtered-take ys (sym (ap t q) ∙ e)) (Memᴰ.head q)
  in-filtered (Memᴰ.tail {x = y} {xs = ys} m) e =
      test-cases (t y)
      (λ f. rw (filtered-take ys f) (Memᴰ.tail (in-filtered m e)))
      (λ f. rw (filtered-leave ys f) (in-filtered m e))

  pub filtered-length : (ys : List ℕ) → length (filtered t ys) ≤ length ys
  unfolding filtered
  filtered-length [] = omega arith
  filtered-length (y ∷ ys) =
      test-cases (t y)
      (λ e. rw (filtered-take ys e) (omega (arith, filtered-length ys)))
      (λ e. rw (filtered-leave ys e) (omega (arith, filtered-length ys)))

-- lists by rising rank
pub rising_down : {a b : ℕ} {ys : List ℕ} → a ≤ b → Rising b ys → Rising a ys
rising_down h done = done
rising_down h (more l r) = more (le_trans h l) r

pub rising-over : {a : ℕ} {ys : List ℕ} → Rising a ys → {z : ℕ} → Memᴰ z ys → a ≤ z
rising-over done m = absurd (Memᴰ.not-nil m)
rising-over {a} (more {y = y} l r) {z} m = ⊎_elim (λ (e : z ≡ y). omega arith) (λ k. omega (arith, rising-over r k)) (Memᴰ.cases_cons m)

-- from any number on that is not above its members
pub rising-from : {a b : ℕ} {ys : List ℕ} → Rising a ys → ((z : ℕ) → Memᴰ z ys → b ≤ z) → Rising b ys
rising-from done f = done
rising-from (more {y = y} l r) f = more (f y (Memᴰ.head refl)) r

pub rising-filtered : (t : ℕ → Bool) {a : ℕ} {ys : List ℕ} → Rising a ys → Rising a (filtered t ys)
unfolding filtered
rising-filtered t done = done
rising-filtered t (more {y = y} {ys = ys} l r) =
    test-cases (t y)
    (λ e. rw (filtered-take t ys e) (more l (rising-filtered t r)))
    (λ e. rw (filtered-leave t ys e) (rising_down (omega arith) (rising-filtered t r)))

-- lists by rising rank with the same members are one
pub rising-ext : {a b : ℕ} {xs ys : List ℕ} → Rising a xs → Rising b ys
    → ((z : ℕ) → Memᴰ z xs → Memᴰ z ys) → ((z : ℕ) → Memᴰ z ys → Memᴰ z xs) → xs ≡ ys
rising-ext done done f g = refl
rising-ext done (more {y = y} l r) f g = absurd (Memᴰ.not-nil (g y (Memᴰ.head refl)))
rising-ext (more {y = x} l r) done f g = absurd (Memᴰ.not-nil (f x (Memᴰ.head refl)))
rising-ext (more {y = x} {ys = xs} l r) (more {y = y} {ys = ys} k s) f g = ap₂ ◌∷◌ e (rising-ext r s forward backward)
  where
    head-least : {a b : ℕ} {us : List ℕ} → Rising (suc b) us → Memᴰ a (b ∷ us) → b ≤ a
    head-least {a} {b} v m = ⊎_elim (λ (e : a ≡ b). omega arith) (λ t. le_of_lt (rising-over v t)) (Memᴰ.cases_cons m)

    e : x ≡ y
    e = omega (arith, head-least s (f x (Memᴰ.head refl)), head-least r (g y (Memᴰ.head refl)))

    forward : (z : ℕ) → Memᴰ z xs → Memᴰ z ys
    forward z m =
        ⊎_elim (λ (q : z ≡ y). absurd (omega (arith, e, rising-over r m))) (λ t. t) (Memᴰ.cases_cons (f z (Memᴰ.tail m)))

    backward : (z : ℕ) → Memᴰ z ys → Memᴰ z xs
    backward z m =
        ⊎_elim (λ (q : z ≡ x). absurd (omega (arith, e, rising-over s m))) (λ t. t) (Memᴰ.cases_cons (g z (Memᴰ.tail m)))
