-- Sums over lists of ranks, under a rule that gives each rank a number: what is added, what passes a test, sums of sums, and what
-- stands at one rank alone.
-- Assumes nothing.
use mathlib.Core.Path.{◌≡◌, refl, sym, ap, ◌∙◌}
use mathlib.Core.Logic.{◌≢◌, by_cases}
use mathlib.Core.Bool.{Bool, cond}
use mathlib.Core.List.{List, [], ◌∷◌, map, Memᴰ}
use Prim.Native.Nat.{ℕ, zero, suc, ◌+◌, ◌≤◌, ◌<◌}
use native.Mathlib.Nat.{zero-add, add-zero, suc-add, add-suc, le_refl}
use native.Mathlib.Decide.{ℕ_discrete, le_ind}
use native.Mathlib.Omega.{arith}
use lib.Dec.{eqb}
use lib.ListN.{length, get_or}
use borrow.Author.Tests.{eq-eqb, ne_eqb}
use Rattle.game.specs.Table.{tabulate_from, sum, filtered}
use Rattle.game.proofs.Bools.{test-cases}
use Rattle.game.proofs.Lists.{filtered-take, filtered-leave}
use Rattle.cut.proofs.Lists.{stretch, stretch-in, sum-nought}

-- v if the test holds, else 0
abbrev pub only : Bool → ℕ → ℕ
only b v = cond b v 0

-- the sum of a rule over a list
abbrev pub total : List ℕ → (ℕ → ℕ) → ℕ
total ys f = sum (map f ys)

pub total-add : (f g : ℕ → ℕ) (ys : List ℕ) → total ys (λ y. f y + g y) ≡ total ys f + total ys g
unfolding sum
total-add f g [] = refl
total-add f g (y ∷ ys) = omega (arith, total-add f g ys)

-- those that pass, and those that do not
pub total-filtered : (t : ℕ → Bool) (f : ℕ → ℕ) (ys : List ℕ) → total (filtered t ys) f ≡ total ys (λ y. only (t y) (f y))
unfolding sum filtered
total-filtered t f [] = refl
total-filtered t f (y ∷ ys) =
    test-cases (t y)
    (λ e. rw (filtered-take t ys e, e) (ap (λ (s : ℕ). f y + s) (total-filtered t f ys)))
    (λ e. rw (filtered-leave t ys e, e) (total-filtered t f ys ∙ sym (zero-add _)))

pub total-swap : (g : ℕ → ℕ → ℕ) (xs ys : List ℕ) → total xs (λ x. total ys (g x)) ≡ total ys (λ y. total xs (λ x. g x y))
unfolding sum
total-swap g [] ys = sym (sum-nought (λ y. 0) ys (λ z m. refl))
total-swap g (x ∷ xs) ys = ap (λ (s : ℕ). total ys (g x) + s) (total-swap g xs ys) ∙ sym (total-add (g x) (λ y. total xs (λ v. g v y)) ys)

-- what stands at rank q alone
pub total-elsewhere : (q : ℕ) (f : ℕ → ℕ) (ys : List ℕ) → ((x : ℕ) → Memᴰ x ys → q ≢ x) → total ys (λ x. only (eqb q x) (f x)) ≡ 0
total-elsewhere q f ys h = sum-nought (λ x. only (eqb q x) (f x)) ys (λ x m. rw (ne_eqb q x (h x m)))

pub total_here : (q : ℕ) (f : ℕ → ℕ) (a k : ℕ) → a ≤ q → q < a + k → total (stretch a k) (λ x. only (eqb q x) (f x)) ≡ f q
unfolding sum tabulate_from
total_here q f a zero h l = absurd (omega arith)
total_here q f a (suc k) h l =
    by_cases (ℕ_discrete q a)
    (λ (e : q ≡ a).
    rw (eq-eqb q a e)
    (omega (arith, ap f e, total-elsewhere q f (stretch (suc a) k) (λ x m d. omega (arith, (stretch-in (suc a) k m).0)))))
    (λ (d : q ≢ a). rw (ne_eqb q a d) (zero-add _ ∙ total_here q f (suc a) k (omega arith) (omega arith)))

-- the sum of a table is the sum over its ranks
table-from : (ws : List ℕ) (f : ℕ → ℕ) (a : ℕ) → ((i : ℕ) → i < length ws → f (a + i) ≡ get_or ws i 0) → total (stretch a (length ws)) f ≡ sum ws
unfolding sum tabulate_from
table-from [] f a h = refl
table-from (v ∷ ws) f a h =
    omega (arith, ap f (add-zero a), h 0 (omega arith), table-from ws f (suc a) (λ i l. ap f (omega arith) ∙ h (suc i) (omega arith)))

pub total-table : (ws : List ℕ) → total (stretch 0 (length ws)) (λ x. get_or ws x 0) ≡ sum ws
total-table ws = table-from ws (λ x. get_or ws x 0) 0 (λ i l. ap (λ (x : ℕ). get_or ws x 0) (zero-add i))

total-last : (f : ℕ → ℕ) (a k : ℕ) → total (stretch a (suc k)) f ≡ total (stretch a k) f + f (a + k)
unfolding sum tabulate_from
total-last f a zero = omega (arith, ap f (add-zero a))
total-last f a (suc k) = omega (arith, total-last f (suc a) k, ap f (suc-add a k), ap f (add-suc a k))

-- what starts at 0 and grows by f at each rank is the sum of f
pub total-grown : (v f : ℕ → ℕ) → v 0 ≡ 0 → ((m : ℕ) → v (suc m) ≡ v m + f m) → (m : ℕ) → v m ≡ total (stretch 0 m) f
unfolding sum tabulate_from
total-grown v f e g zero = e
total-grown v f e g (suc m) = omega (arith, g m, total-grown v f e g m, total-last f 0 m, ap f (zero-add m))

-- a longer stretch comes to no less
pub total-more : (f : ℕ → ℕ) (m n : ℕ) → m ≤ n → total (stretch 0 m) f ≤ total (stretch 0 n) f
total-more f m n h =
    le_ind (λ (k : ℕ). total (stretch 0 m) f ≤ total (stretch 0 k) f) (le_refl (total (stretch 0 m) f)) (λ k g l. omega (arith, total-last f 0 k)) n h
