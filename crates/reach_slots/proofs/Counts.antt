-- Counting the entries of a list that pass a test, and finding one.
-- Assumes nothing.
use mathlib.Core.Path.{◌≡◌, refl, sym, ap, ap₂, ◌∙◌}
use mathlib.Core.Logic.{◌≢◌, ⊎_elim}
use mathlib.Core.Bool.{Bool, true, false, false≢true}
use mathlib.Core.List.Memᴰ
use mathlib.Core.List.{List, [], ◌∷◌, Memᴰ}
use Prim.Native.Nat.{ℕ, ◌+◌, ◌<◌}
use native.Mathlib.Nat.{ne_of_lt}
use native.Mathlib.Omega.{arith}
use Rattle.game.specs.Table.{one_if, count, some_entry}
use Rattle.game.proofs.Bools.{or_cases, or_left, or_right}
use Rattle.game.proofs.Lists.{Rising, done, more, rising-over}

module _ {A : Type 0} where
  -- an entry that passes the test
  pub entry-some : (t : A → Bool) {a : A} {xs : List A} → Memᴰ a xs → t a ≡ true → some_entry t xs ≡ true
  unfolding some_entry
  entry-some t (Memᴰ.head {x = x} {xs = xs} e) h = or_left (t x) (some_entry t xs) (ap t (sym e) ∙ h)
  entry-some t (Memᴰ.tail {x = x} {xs = xs} m) h = or_right (t x) (some_entry t xs) (entry-some t m h)

  -- where the test passes for some entry, there is one
  pub some-entry-in : (t : A → Bool) (xs : List A) → some_entry t xs ≡ true → (a : A) × Memᴰ a xs × (t a ≡ true)
  unfolding some_entry
  some-entry-in t [] e = absurd (false≢true e)
  some-entry-in t (x ∷ xs) e =
      ⊎_elim
      (λ h. (x, Memᴰ.head refl, h))
      (λ h. let (a, m, k) = some-entry-in t xs h in (a, Memᴰ.tail m, k))
      (or_cases (t x) (some_entry t xs) e)

  -- tests that agree on the entries count alike
  pub count-ext : (t u : A → Bool) (xs : List A) → ((a : A) → Memᴰ a xs → t a ≡ u a) → count t xs ≡ count u xs
  unfolding count
  count-ext t u [] h = refl
  count-ext t u (x ∷ xs) h =
      ap₂ (λ b k. one_if b + k) (h x (Memᴰ.head refl)) (count-ext t u xs (λ a m. h a (Memᴰ.tail m)))

-- a test that passes for one entry more counts one more
pub count-more : (t u : ℕ → Bool) {z y : ℕ} {ys : List ℕ} → Rising z ys → Memᴰ y ys → t y ≡ false → u y ≡ true
    → ((x : ℕ) → Memᴰ x ys → x ≢ y → u x ≡ t x) → count u ys ≡ count t ys + 1
unfolding count one_if
count-more t u done m f g h = absurd (Memᴰ.not-nil m)
count-more t u {y = y} (more {y = x} {ys = ys} l r) m f g h =
    ⊎_elim
    (λ (e : y ≡ x).
    let same : count u ys ≡ count t ys =
    count-ext u t ys (λ a k. h a (Memᴰ.tail k) (λ q. ne_of_lt (rising-over r k) (sym (q ∙ e)))) in
    rw (← e, f, g, same) (omega arith))
    (λ k.
    let less : x < y = rising-over r k in
    let rest : count u ys ≡ count t ys + 1 = count-more t u r k f g (λ a i. h a (Memᴰ.tail i)) in
    rw (h x (Memᴰ.head refl) (omega arith)) (omega arith))
    (Memᴰ.cases_cons m)
