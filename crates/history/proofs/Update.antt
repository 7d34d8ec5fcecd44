-- Laws of `update`: the value put in is read where it was put, and every other one as it was.
-- Assumes nothing.
use mathlib.Core.Path.{◌≡◌, refl}
use mathlib.Core.Logic.{◌≢◌, by_cases}
use Prim.Native.Nat.{ℕ}
use native.Mathlib.Decide.{ℕ_discrete}
use borrow.Author.Tests.{eq-eqb, ne_eqb}
use Rattle.history.specs.World.{update}

module _ {A : Type 0} (f : ℕ → A) (i : ℕ) (x : A) where
  pub update_here : update f i x i ≡ x
  unfolding update
  update_here = rw (eq-eqb i i refl)

  pub update-there : (k : ℕ) → k ≢ i → update f i x k ≡ f k
  unfolding update
  update-there k d = rw (ne_eqb k i d)

-- What holds of each entry of two tables still does if one entry of each is put in for which it holds.
module _ {A B : Type 0} (P : A → B → Type 0) (f : ℕ → A) (g : ℕ → B) (h : (k : ℕ) → P (f k) (g k)) (i : ℕ) where
  pub update-both : (x : A) (y : B) → P x y → (k : ℕ) → P (update f i x k) (update g i y k)
  update-both x y p k = by_cases (ℕ_discrete k i)
      (λ (e : k ≡ i). rw (e, update_here f i x, update_here g i y) p)
      (λ (d : k ≢ i). rw (update-there f i x k d, update-there g i y k d) (h k))

  -- the same where only the first table is written, with what it held
  pub update_same : (x : A) → x ≡ f i → (k : ℕ) → P (update f i x k) (g k)
  update_same x e k = by_cases (ℕ_discrete k i)
      (λ (q : k ≡ i). rw (q, update_here f i x, e) (h i))
      (λ (d : k ≢ i). rw (update-there f i x k d) (h k))
