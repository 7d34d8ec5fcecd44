-- Laws of `first`, `given` and `unless`: what a chain of early returns shows, and what an accepted call knows.
-- Assumes nothing.
use mathlib.Core.Path.{◌≡◌, refl, sym, ap₂, ◌∙◌}
use mathlib.Core.Bool.{Bool, true, false}
use mathlib.Core.List.{List, [], ◌∷◌, ◌++◌}
use Prim.Native.Nat.{ℕ, zero, suc, ◌%◌, ◌≤◌, ◌<◌}
use native.Mathlib.Nat.{pos_of_ne-zero}
use native.Mathlib.Omega.{arith}
use lib.Dec.{eqb, ltb}
use lib.ListN.{length, length-append}
use borrow.Author.Tests.{eq-eqb, ne_eqb, eqb-true, eqb-false, ltb-false, not-false}
use Rattle.game.proofs.Bools.{or-neither}
use Rattle.refusal.specs.Limits.{max_vertices}
use Rattle.refusal.specs.Refusal.{given, first, unless, wrong_length, not_whole, bad_count}

-- a test that does not apply is passed over
pub first-pass : (k : ℕ) (ks : List ℕ) → k ≡ 0 → first (k ∷ ks) ≡ first ks
unfolding first
first-pass zero ks e = refl
first-pass (suc k) ks e = absurd (omega arith)

-- one that applies is the answer
pub first-stop : (k : ℕ) (ks : List ℕ) → (k ≡ 0 → ⊥) → first (k ∷ ks) ≡ k
unfolding first
first-stop zero ks h = absurd (h refl)
first-stop (suc k) ks h = refl

pub first-last : (k : ℕ) → first (k ∷ []) ≡ k
unfolding first
first-last zero = refl
first-last (suc k) = refl

-- what comes behind a test may be exchanged for what decides the same
pub first-same : (k : ℕ) (ks js : List ℕ) → first ks ≡ first js → first (k ∷ ks) ≡ first (k ∷ js)
unfolding first
first-same zero ks js e = e
first-same (suc k) ks js e = refl

-- accepted: no test applied
pub first-none : (k : ℕ) (ks : List ℕ) → first (k ∷ ks) ≡ 0 → (k ≡ 0) × (first ks ≡ 0)
unfolding first
first-none zero ks e = (refl, e)
first-none (suc k) ks e = absurd (omega arith)

pub given-true : (t : Bool) (k : ℕ) → t ≡ true → given t k ≡ k
unfolding given
given-true t k e = rw e

pub given-false : (t : Bool) (k : ℕ) → t ≡ false → given t k ≡ 0
unfolding given
given-false t k e = rw e

-- a number that is given is not 0, so the test fails where 0 came out
pub given-none : (t : Bool) (k : ℕ) → given t (suc k) ≡ 0 → t ≡ false
unfolding given
given-none true k e = absurd (omega arith)
given-none false k e = refl

pub unless-refused : {A : Type 0} (k : ℕ) (was new : A) → (k ≡ 0 → ⊥) → unless k was new ≡ was
unfolding unless
unless-refused zero was new h = absurd (h refl)
unless-refused (suc k) was new h = refl

pub unless-accepted : {A : Type 0} (k : ℕ) (was new : A) → k ≡ 0 → unless k was new ≡ new
unfolding unless
unless-accepted zero was new e = refl
unless-accepted (suc k) was new e = absurd (omega arith)

-- a part of what is decided
pub unless-part : {A B : Type 0} (f : A → B) (k : ℕ) (was new : A) → f (unless k was new) ≡ unless k (f was) (f new)
unfolding unless
unless-part f zero was new = refl
unless-part f (suc k) was new = refl

-- two of them look alike in part, where the numbers are the same and the new tables look alike there
pub unless-alike : {A B : Type 0} (f : A → B) (was : A) {j k : ℕ} {one other : A} → j ≡ k → f one ≡ f other → f (unless j was one) ≡ f (unless k was other)
unless-alike f was {j} {k} {one} {other} e h =
    unless-part f j was one ∙ ap₂ (λ i t. unless i (f was) t) e h ∙ sym (unless-part f k was other)

-- the same for a test and its number
pub pass : {t : Bool} (k : ℕ) (ks : List ℕ) → t ≡ false → first (given t k ∷ ks) ≡ first ks
pass {t} k ks e = first-pass (given t k) ks (given-false t k e)

pub stop : {t : Bool} (k : ℕ) (ks : List ℕ) → t ≡ true → first (given t (suc k) ∷ ks) ≡ suc k
unfolding first given
stop k ks e = rw e

-- a length that is right, or wrong
pub right-length : (has needs : ℕ) → has ≡ needs → wrong_length has needs ≡ false
unfolding wrong_length
right-length has needs e = rw (eq-eqb has needs e)

pub wrong-length : (has needs : ℕ) → (has ≡ needs → ⊥) → wrong_length has needs ≡ true
unfolding wrong_length
wrong-length has needs d = rw (ne_eqb has needs d)

pub length-right : (has needs : ℕ) → wrong_length has needs ≡ false → has ≡ needs
unfolding wrong_length
length-right has needs e = eqb-true has needs (not-false (eqb has needs) e)

-- a list of whole ties
pub whole-list : (xs : List ℕ) → length xs % 3 ≡ 0 → not_whole xs ≡ false
unfolding not_whole
whole-list xs e = rw (eq-eqb (length xs % 3) 0 e)

pub list-whole : (xs : List ℕ) → not_whole xs ≡ false → length xs % 3 ≡ 0
unfolding not_whole
list-whole xs e = eqb-true (length xs % 3) 0 (not-false (eqb (length xs % 3) 0) e)

-- a list of whole ties before another
pub whole_append : (xs ys : List ℕ) → length xs % 3 ≡ 0 → not_whole (xs ++ ys) ≡ not_whole ys
unfolding not_whole
whole_append xs ys h =
    let e : length (xs ++ ys) % 3 ≡ length ys % 3 = omega (arith, length-append xs ys) in
    rw e refl

-- a count that is not refused
pub good-count : (n : ℕ) → bad_count n ≡ false → (0 < n) × (n ≤ max_vertices)
unfolding bad_count
good-count n e =
    let h = or-neither (eqb n 0) (ltb max_vertices n) e in
    (pos_of_ne-zero (eqb-false n 0 h.0), ltb-false max_vertices n h.1)

-- no test is left
pub first-end : first [] ≡ 0
unfolding first
first-end = refl
