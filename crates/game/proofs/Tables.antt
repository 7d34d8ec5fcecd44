-- Tables made from a rule are read off by that rule; membership as a test and as a fact; sums and counts.
-- Assumes nothing.
use mathlib.Core.Path.{◌≡◌, refl, sym, ap, ◌∙◌}
use mathlib.Core.Logic.{⊎_elim}
use mathlib.Core.Bool.{Bool, true, false≢true}
use mathlib.Core.List.{List, [], ◌∷◌, ◌++◌, Memᴰ}
use Prim.Native.Nat.{ℕ, zero, suc, ◌+◌, ◌≤◌, ◌<◌}
use native.Mathlib.Nat.{not-suc-le-zero, le_of_suc-le-suc, add-zero, zero-add}
use native.Mathlib.Omega.{arith}
use lib.Dec.{eqb}
use native.Mathlib.Numerals.{add-one}
use lib.ListN.{length, get_or, set, drop, replicate, length-replicate, get_or-replicate, drop_of_length-le}
use lib.Seq.{ext_get_or, drop-cons}
use borrow.Author.Tests.{eqb-true, eq-eqb}
use Rattle.game.specs.Table.{tabulate_from, tabulate, sum, member, count}
use Rattle.game.proofs.Bools.{or_cases, or_left, or_right}

module _ {A : Type 0} where
  from-length : (i n : ℕ) (f : ℕ → A) → length (tabulate_from i n f) ≡ n
  unfolding tabulate_from
  from-length i zero f = refl
  from-length i (suc n) f = ap suc (from-length (suc i) n f)

  from-entry : (i n : ℕ) (f : ℕ → A) (k : ℕ) (d : A) → k < n → get_or (tabulate_from i n f) k d ≡ f (i + k)
  unfolding tabulate_from
  from-entry i zero f k d h = absurd (not-suc-le-zero h)
  from-entry i (suc n) f zero d h = ap f (sym (add-zero i))
  from-entry i (suc n) f (suc k) d h = from-entry (suc i) n f k d (le_of_suc-le-suc h) ∙ ap f (omega arith)

  -- a table has the length that it was made with
  pub tabulate-length : (n : ℕ) (f : ℕ → A) → length (tabulate n f) ≡ n
  unfolding tabulate
  tabulate-length n f = from-length 0 n f

  -- its entries are what the rule says
  pub tabulate-entry : (n : ℕ) (f : ℕ → A) (i : ℕ) (d : A) → i < n → get_or (tabulate n f) i d ≡ f i
  unfolding tabulate
  tabulate-entry n f i d h = from-entry 0 n f i d h ∙ ap f (zero-add i)

  -- a list with that length and those entries is the table
  pub tabulate-unique : (n : ℕ) (f : ℕ → A) (xs : List A) (d : A) → length xs ≡ n → ((i : ℕ) → i < n → get_or xs i d ≡ f i) → xs ≡ tabulate n f
  tabulate-unique n f xs d e h =
      ext_get_or d xs (tabulate n f) (e ∙ sym (tabulate-length n f)) (λ i l. let b : i < n = omega arith in h i b ∙ sym (tabulate-entry n f i d b))

  -- rules that agree below n make one table of n entries
  pub tabulate-ext : (n : ℕ) (f g : ℕ → A) → ((i : ℕ) → i < n → f i ≡ g i) → tabulate n f ≡ tabulate n g
  tabulate-ext n f g h =
      tabulate-unique n g (tabulate n f) (f 0) (tabulate-length n f) (λ i l. tabulate-entry n f i (f 0) l ∙ h i l)

  -- a rule that gives one value makes copies of it
  pub tabulate-const : (n : ℕ) (f : ℕ → A) (a : A) → ((i : ℕ) → i < n → f i ≡ a) → tabulate n f ≡ replicate n a
  tabulate-const n f a h =
      sym (tabulate-unique n f (replicate n a) a (length-replicate n a) (λ i l. get_or-replicate n i a a l ∙ sym (h i l)))

-- the test of membership, as a fact
pub member-in : (v : ℕ) (s : List ℕ) → member v s ≡ true → Memᴰ v s
unfolding member
member-in v [] e = absurd (false≢true e)
member-in v (w ∷ s) e =
    ⊎_elim (λ h. Memᴰ.head (eqb-true v w h)) (λ h. Memᴰ.tail (member-in v s h)) (or_cases (eqb v w) (member v s) e)

-- a member passes the test of membership
pub in-member : {v : ℕ} {s : List ℕ} → Memᴰ v s → member v s ≡ true
unfolding member
in-member {v} (Memᴰ.head {x = x} {xs = xs} e) = or_left (eqb v x) (member v xs) (eq-eqb v x e)
in-member {v} (Memᴰ.tail {x = x} {xs = xs} m) = or_right (eqb v x) (member v xs) (in-member m)

-- an entry is at most the sum
pub sum-entry : (xs : List ℕ) (i : ℕ) → get_or xs i 0 ≤ sum xs
unfolding sum
sum-entry [] i = omega arith
sum-entry (x ∷ xs) zero = omega arith
sum-entry (x ∷ xs) (suc i) = omega (arith, sum-entry xs i)

pub sum_zeros : (n : ℕ) → sum (replicate n 0) ≡ 0
unfolding sum
sum_zeros zero = refl
sum_zeros (suc n) = omega (arith, sum_zeros n)

sum-from-add : (i n : ℕ) (f g : ℕ → ℕ) → sum (tabulate_from i n (λ k. f k + g k)) ≡ sum (tabulate_from i n f) + sum (tabulate_from i n g)
unfolding tabulate_from sum
sum-from-add i zero f g = refl
sum-from-add i (suc n) f g = omega (arith, sum-from-add (suc i) n f g)

-- a table of sums has the sum of the tables
pub sum-tabulate-add : (n : ℕ) (f g : ℕ → ℕ) → sum (tabulate n (λ i. f i + g i)) ≡ sum (tabulate n f) + sum (tabulate n g)
unfolding tabulate
sum-tabulate-add n f g = sum-from-add 0 n f g

-- a count over two lists laid together
pub count-append : {A : Type 0} (t : A → Bool) (xs ys : List A) → count t (xs ++ ys) ≡ count t xs + count t ys
unfolding count
count-append t [] ys = sym (zero-add (count t ys))
count-append t (x ∷ xs) ys = omega (arith, count-append t xs ys)

-- a loop that adds a table up: what is left at i is the entry there and what is left after it
pub sum_drop : (xs : List ℕ) (i : ℕ) → i < length xs → sum (drop i xs) ≡ get_or xs i 0 + sum (drop (i + 1) xs)
unfolding sum
sum_drop xs i h = rw (add-one, drop-cons xs i 0)

-- at the end nothing is left
pub sum-end : (xs : List ℕ) (i : ℕ) → length xs ≤ i → sum (drop i xs) ≡ 0
unfolding sum
sum-end xs i h = rw (drop_of_length-le xs h)

-- one entry of a table changed
pub sum-set : (xs : List ℕ) (i v : ℕ) → i < length xs → sum (set xs i v) + get_or xs i 0 ≡ sum xs + v
unfolding sum
sum-set [] i v h = absurd (omega arith)
sum-set (x ∷ xs) zero v h = omega arith
sum-set (x ∷ xs) (suc i) v h = omega (arith, sum-set xs i v (omega arith))

-- the same, from place k on
pub sum-drop-set : (xs : List ℕ) (k i v : ℕ) → k ≤ i → i < length xs → sum (drop k (set xs i v)) + get_or xs i 0 ≡ sum (drop k xs) + v
sum-drop-set xs zero i v h l = sum-set xs i v l
sum-drop-set [] (suc k) i v h l = absurd (omega arith)
sum-drop-set (x ∷ xs) (suc k) zero v h l = absurd (omega arith)
sum-drop-set (x ∷ xs) (suc k) (suc i) v h l = sum-drop-set xs k i v (omega arith) (omega arith)

pub sum-drop-entry : (xs : List ℕ) (k i : ℕ) → k ≤ i → get_or xs i 0 ≤ sum (drop k xs)
sum-drop-entry xs zero i h = sum-entry xs i
sum-drop-entry [] (suc k) i h = omega arith
sum-drop-entry (x ∷ xs) (suc k) zero h = absurd (omega arith)
sum-drop-entry (x ∷ xs) (suc k) (suc i) h = sum-drop-entry xs k i (omega arith)
