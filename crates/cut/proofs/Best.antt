-- The best of a list, of equals the first: what it is, and that nothing else is it.
-- Assumes nothing.
use mathlib.Core.Path.{◌≡◌, refl, sym, ◌∙◌}
use mathlib.Core.Logic.{◌⊎◌, inl, inr, ⊎_elim}
use mathlib.Core.Bool.{Bool, true, false, true≢false}
use mathlib.Core.List.Memᴰ
use mathlib.Core.List.{List, [], ◌∷◌, Memᴰ}
use Prim.Native.Nat.{ℕ, suc, ◌≤◌, ◌<◌}
use native.Mathlib.Omega.{arith}
use lib.Dec.{ltb}
use borrow.Author.Tests.{ltb-true, ltb-false, lt-ltb, le-ltb}
use Rattle.cut.specs.Cut.{best}
use Rattle.game.proofs.Bools.{test-cases}
use Rattle.game.proofs.Lists.{Rising, more, rising_down}

-- h is of the list, no other beats it, and those that it does not beat come later
pub record Best (beats : ℕ → ℕ → Bool) (ys : List ℕ) (h : ℕ) : Type 0 where
  pub inside : Memᴰ h ys
  pub unbeaten : (z : ℕ) → Memᴰ z ys → beats z h ≡ false
  pub first : (z : ℕ) → Memᴰ z ys → (beats h z ≡ true) ⊎ (h ≤ z)

pub best-unique : {beats : ℕ → ℕ → Bool} {ys : List ℕ} {g h : ℕ} → Best beats ys g → Best beats ys h → g ≡ h
best-unique {g = g} {h = h} a b = omega (arith, below a b, below b a)
  where
    below : {beats : ℕ → ℕ → Bool} {ys : List ℕ} {g h : ℕ} → Best beats ys g → Best beats ys h → g ≤ h
    below {g = g} {h = h} a b =
        ⊎_elim (λ t. absurd (true≢false (sym t ∙ b.unbeaten g a.inside))) (λ l. l) (a.first h b.inside)

-- to beat is to be ahead by some measure: who beats y is not beaten by it, and beats all that do not beat y
pub record Ranking (beats : ℕ → ℕ → Bool) : Type 0 where
  pub turned : (z y : ℕ) → beats z y ≡ true → beats y z ≡ false
  pub ahead : (z y v : ℕ) → beats z y ≡ true → beats v y ≡ false → beats z v ≡ true

module _ {beats : ℕ → ℕ → Bool} (k : Ranking beats) where
  self : (y : ℕ) → beats y y ≡ false
  self y = test-cases (beats y y) (λ t. k.turned y y t) (λ f. f)

  -- the head y loses to z, so the best of z and the rest is the best
  drop_head : {y z h : ℕ} {ys : List ℕ} → beats z y ≡ true → Best beats (z ∷ ys) h → Best beats (y ∷ z ∷ ys) h
  drop_head {y} {z} {h} {ys} e b =
      record {
        inside = Memᴰ.tail b.inside;
        unbeaten = λ v m. ⊎_elim (λ (q : v ≡ y). rw q (k.turned h y loses)) (λ t. b.unbeaten v t) (Memᴰ.cases_cons m);
        first = λ v m. ⊎_elim (λ (q : v ≡ y). rw q (inl loses)) (λ t. b.first v t) (Memᴰ.cases_cons m);
      }
    where
      loses : beats h y ≡ true
      loses =
          test-cases (beats h y) (λ t. t)
          (λ f. absurd (true≢false (sym (k.ahead z y h e f) ∙ b.unbeaten z (Memᴰ.head refl))))

  -- z does not beat the head y, so the best of y and the rest is the best
  drop-next : {y z h : ℕ} {ys : List ℕ} → beats z y ≡ false → y < z → Best beats (y ∷ ys) h → Best beats (y ∷ z ∷ ys) h
  drop-next {y} {z} {h} {ys} e l b =
      record {
        inside = ⊎_elim (λ q. Memᴰ.head q) (λ t. Memᴰ.tail (Memᴰ.tail t)) (Memᴰ.cases_cons b.inside);
        unbeaten = λ v m. split v m (λ q. rw q weaker) (b.unbeaten v);
        first = λ v m. split v m (λ q. rw q later) (b.first v);
      }
    where
      split : {A : Type 0} (v : ℕ) → Memᴰ v (y ∷ z ∷ ys) → (v ≡ z → A) → (Memᴰ v (y ∷ ys) → A) → A
      split v m f g =
          ⊎_elim (λ q. g (Memᴰ.head q)) (λ t. ⊎_elim f (λ s. g (Memᴰ.tail s)) (Memᴰ.cases_cons t)) (Memᴰ.cases_cons m)

      weaker : beats z h ≡ false
      weaker =
          test-cases (beats z h)
          (λ t. absurd (true≢false (sym (k.ahead z h y t (b.unbeaten y (Memᴰ.head refl))) ∙ e)))
          (λ f. f)

      later : (beats h z ≡ true) ⊎ (h ≤ z)
      later = ⊎_elim (λ t. inl (k.ahead h y z t e)) (λ (s : h ≤ y). inr (omega arith)) (b.first y (Memᴰ.head refl))

  -- the chosen one is the best, where the list goes by rising rank
  pub best-is : (y : ℕ) (ys : List ℕ) → Rising (suc y) ys → Best beats (y ∷ ys) (best beats y ys)
  unfolding best
  best-is y [] r =
      record {
        inside = Memᴰ.head refl;
        unbeaten = λ z m. ⊎_elim (λ q. rw q (self y)) (λ t. absurd (Memᴰ.not-nil t)) (Memᴰ.cases_cons m);
        first = λ z m. ⊎_elim (λ (q : z ≡ y). inr (omega arith)) (λ t. absurd (Memᴰ.not-nil t)) (Memᴰ.cases_cons m);
      }
  best-is y (z ∷ ys) (more l r) =
      test-cases (beats z y)
      (λ t. rw t (drop_head t (best-is z ys r)))
      (λ f. rw f (drop-next f l (best-is y ys (rising_down (omega arith) r))))

-- ahead by a greater number
pub heavier : (c : ℕ → ℕ) → Ranking (λ (z y : ℕ). ltb (c y) (c z))
heavier c =
    record {
      turned = λ z y e. le-ltb (c z) (c y) (omega (arith, ltb-true (c y) (c z) e));
      ahead = λ z y v e f. lt-ltb (c v) (c z) (omega (arith, ltb-true (c y) (c z) e, ltb-false (c y) (c v) f));
    }

-- ahead by a lesser number
pub lighter : (c : ℕ → ℕ) → Ranking (λ (z y : ℕ). ltb (c z) (c y))
lighter c =
    record {
      turned = λ z y e. le-ltb (c y) (c z) (omega (arith, ltb-true (c z) (c y) e));
      ahead = λ z y v e f. lt-ltb (c z) (c v) (omega (arith, ltb-true (c z) (c y) e, ltb-false (c v) (c y) f));
    }
