-- Sums over the children of a vertex.
-- Assumes nothing.
use mathlib.Core.Path.{◌≡◌, refl, sym, ◌∙◌}
use mathlib.Core.Logic.{◌≢◌, by_cases}
use mathlib.Core.Bool.{Bool, true, false, cond}
use mathlib.Core.List.{List}
use Prim.Native.Nat.{ℕ, zero, suc, ◌+◌, ◌≤◌, ◌<◌}
use native.Mathlib.Nat.{add-zero, zero-add}
use native.Mathlib.Numerals.{add-one}
use native.Mathlib.Decide.{ℕ_discrete, dec_lt}
use native.Mathlib.Omega.{arith}
use lib.Dec.{eqb}
use lib.ListN.{get_or}
use borrow.Author.Tests.{eq-eqb, ne_eqb}
use Rattle.game.specs.Game.{absent}
use Rattle.game.specs.Table.{one_if}
use Rattle.reach_slots.specs.Balance.{child_sum}

cond-add : (t : Bool) (a b : ℕ) → cond t (a + b) 0 ≡ cond t a 0 + cond t b 0
cond-add true a b = refl
cond-add false a b = refl

cond-none : (t : Bool) → cond {A = ℕ} t 0 0 ≡ 0
cond-none true = refl
cond-none false = refl

cond-one : (t : Bool) → cond t 1 0 ≡ one_if t
unfolding one_if
cond-one true = refl
cond-one false = refl

module _ (p : List ℕ) where
  -- the vertex i adds what f gives there if it is a child
  pub child_sum-here : (f : ℕ → ℕ) (i x : ℕ) → get_or p i absent ≡ x → child_sum p f (i + 1) x ≡ child_sum p f i x + f i
  unfolding child_sum
  child_sum-here f i x e = rw (add-one, eq-eqb (get_or p i absent) x e)

  -- it adds nothing if it is none
  pub child_sum-other : (f : ℕ → ℕ) (i x : ℕ) → get_or p i absent ≢ x → child_sum p f (i + 1) x ≡ child_sum p f i x
  unfolding child_sum
  child_sum-other f i x d = rw (add-one, ne_eqb (get_or p i absent) x d, add-zero)

  -- functions that agree below i have one sum
  pub child_sum-ext : (f g : ℕ → ℕ) (i x : ℕ) → ((c : ℕ) → c < i → f c ≡ g c) → child_sum p f i x ≡ child_sum p g i x
  unfolding child_sum
  child_sum-ext f g zero x h = refl
  child_sum-ext f g (suc i) x h = rw (child_sum-ext f g i x (λ c l. h c (omega arith)), h i (omega arith))

  -- the sum of two functions
  pub child_sum-add : (f g : ℕ → ℕ) (i x : ℕ) → child_sum p (λ c. f c + g c) i x ≡ child_sum p f i x + child_sum p g i x
  unfolding child_sum
  child_sum-add f g zero x = refl
  child_sum-add f g (suc i) x = omega (arith, child_sum-add f g i x, cond-add (eqb (get_or p i absent) x) (f i) (g i))

  -- where f gives 0 at every child, the sum is 0
  pub child_sum-none : (f : ℕ → ℕ) (i x : ℕ) → ((c : ℕ) → c < i → get_or p c absent ≡ x → f c ≡ 0) → child_sum p f i x ≡ 0
  unfolding child_sum
  child_sum-none f zero x h = refl
  child_sum-none f (suc i) x h =
      let less : child_sum p f i x ≡ 0 = child_sum-none f i x (λ c l e. h c (omega arith) e) in
      by_cases (ℕ_discrete (get_or p i absent) x)
      (λ (e : get_or p i absent ≡ x). rw (eq-eqb (get_or p i absent) x e, h i (omega arith) e, less, add-zero))
      (λ (d : get_or p i absent ≢ x). rw (ne_eqb (get_or p i absent) x d, less, add-zero))

-- 1 at u, 0 elsewhere
abbrev pub unit : ℕ → ℕ → ℕ
unit u x = one_if (eqb u x)

-- at u it is 1
pub unit-here : (u x : ℕ) → u ≡ x → unit u x ≡ 1
unfolding one_if
unit-here u x e = rw (eq-eqb u x e)

-- elsewhere 0
pub unit-elsewhere : (u x : ℕ) → u ≢ x → unit u x ≡ 0
unfolding one_if
unit-elsewhere u x d = rw (ne_eqb u x d)

-- never more
pub unit-small : (u x : ℕ) → unit u x ≤ 1
unfolding one_if
unit-small u x = small (eqb u x)
  where
    small : (t : Bool) → one_if t ≤ 1
    small true = omega arith
    small false = omega arith

module _ (p : List ℕ) where
  unit-sum : (u i x : ℕ) → u < i → child_sum p (unit u) i x ≡ unit (get_or p u absent) x
  unfolding child_sum one_if
  unit-sum u zero x h = absurd (omega arith)
  unit-sum u (suc i) x h =
      by_cases (ℕ_discrete u i)
      (λ (e : u ≡ i).
      let before : child_sum p (unit u) i x ≡ 0 = child_sum-none p (unit u) i x (λ c l q. unit-elsewhere u c (omega arith)) in
      rw (before, ← e, unit-here u u refl, cond-one, zero-add))
      (λ (d : u ≢ i). rw (unit-sum u i x (omega arith), unit-elsewhere u i d, cond-none, add-zero))

  -- 1 at u sums up to 1 at the parent of u
  pub child_sum-unit : (u x : ℕ) → u < get_or p u absent → child_sum p (unit u) x x ≡ unit (get_or p u absent) x
  child_sum-unit u x h =
      by_cases (dec_lt u x)
      (λ (l : u < x). unit-sum u x x l)
      (λ (l : ¬ (u < x)).
      child_sum-none p (unit u) x x (λ c k e. unit-elsewhere u c (omega arith)) ∙ sym (unit-elsewhere (get_or p u absent) x (omega arith)))
