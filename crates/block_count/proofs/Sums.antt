-- Counts as sums of ones, and how they are bounded.
-- Assumes nothing.
use mathlib.Core.Path.{◌≡◌, refl, sym}
use mathlib.Core.Logic.{◌≢◌, by_cases}
use mathlib.Core.Bool.{Bool, true, false, ◌&&◌, ◌||◌}
use mathlib.Core.List.{List, [], ◌∷◌, Memᴰ}
use Prim.Native.Nat.{ℕ, zero, suc, ◌+◌, ◌≤◌, ◌<◌}
use native.Mathlib.Nat.{le_trans, le_of_eq}
use native.Mathlib.Decide.{ℕ_discrete, dec_lt}
use native.Mathlib.Omega.{arith}
use lib.Dec.{eqb}
use borrow.Author.Tests.{eq-eqb, ne_eqb}
use Rattle.game.specs.Table.{tabulate_from, tabulate, sum, member, one_if, count}
use Rattle.cut.proofs.Lists.{stretch, stretch-in, sum-nought}
use Rattle.groups.proofs.Sums.{only, total, total-add, total_here, total-elsewhere}

from-total : (a k : ℕ) (f : ℕ → ℕ) → sum (tabulate_from a k f) ≡ total (stretch a k) f
unfolding tabulate_from sum
from-total a zero f = refl
from-total a (suc k) f = omega (arith, from-total (suc a) k f)

-- a table made from a rule has the rule's sum
pub table-total : (n : ℕ) (f : ℕ → ℕ) → sum (tabulate n f) ≡ total (stretch 0 n) f
unfolding tabulate
table-total n f = from-total 0 n f

-- a count is a sum of ones
pub count-total : (t : ℕ → Bool) (ys : List ℕ) → count t ys ≡ total ys (λ y. only (t y) 1)
unfolding count sum one_if
count-total t [] = refl
count-total t (y ∷ ys) = omega (arith, one (t y), count-total t ys)
  where
    one : (b : Bool) → one_if b ≡ only b 1
    one true = refl
    one false = refl

-- a sum is no more where no entry is more
pub total-le : (f g : ℕ → ℕ) (ys : List ℕ) → ((z : ℕ) → Memᴰ z ys → f z ≤ g z) → total ys f ≤ total ys g
unfolding sum
total-le f g [] h = omega arith
total-le f g (y ∷ ys) h = omega (arith, h y (Memᴰ.head refl), total-le f g ys (λ z m. h z (Memᴰ.tail m)))

-- what stands at one rank alone comes to no more than it
pub total-one : (q : ℕ) (f : ℕ → ℕ) (n : ℕ) → total (stretch 0 n) (λ x. only (eqb q x) (f x)) ≤ f q
total-one q f n =
    by_cases (dec_lt q n)
    (λ (h : q < n). le_of_eq (total_here q f 0 n (omega arith) (omega arith)))
    (λ (h : q < n → ⊥). omega (arith, total-elsewhere q f (stretch 0 n) (λ x m e. omega (arith, e, h, (stretch-in 0 n m).1))))

-- the different entries of a list that pass a test are no more than those that pass
pub members-count : (t : ℕ → Bool) (n : ℕ) (ys : List ℕ) → total (stretch 0 n) (λ y. only (member y ys && t y) 1) ≤ count t ys
unfolding member count one_if
members-count t n [] = omega (arith, sum-nought (λ y. 0) (stretch 0 n) (λ z m. refl))
members-count t n (z ∷ ys) =
    le_trans
    (total-le (λ y. only ((eqb y z || member y ys) && t y) 1) (λ y. only (eqb z y) (one_if (t y)) + only (member y ys && t y) 1) (stretch 0 n) (λ y m. split y))
    (omega (arith, total-add (λ y. only (eqb z y) (one_if (t y))) (λ y. only (member y ys && t y) 1) (stretch 0 n), total-one z (λ y. one_if (t y)) n, members-count t n ys, here))
  where
    here : count t (z ∷ ys) ≡ one_if (t z) + count t ys
    here = refl

    passes : (b : Bool) → only b 1 ≤ one_if b
    passes true = omega arith
    passes false = omega arith

    split : (y : ℕ) → only ((eqb y z || member y ys) && t y) 1 ≤ only (eqb z y) (one_if (t y)) + only (member y ys && t y) 1
    split y =
        by_cases (ℕ_discrete y z)
        (λ (e : y ≡ z). rw (eq-eqb y z e, eq-eqb z y (sym e)) (omega (arith, passes (t y))))
        (λ (d : y ≢ z). rw (ne_eqb y z d, ne_eqb z y (λ e. d (sym e))) (omega arith))
