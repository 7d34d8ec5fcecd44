-- Lists without a bad entry: numbers below n, none of them twice. There are at most n of them, and n of them are all the numbers
-- below n.
-- Assumes nothing.
use mathlib.Core.Path.{◌≡◌, refl}
use mathlib.Core.Logic.{by_cases}
use mathlib.Core.Bool.{Bool, true, false, ◌||◌, cond}
use mathlib.Core.List.{List, [], ◌∷◌, ◌++◌}
use Prim.Native.Nat.{ℕ, zero, suc, ◌≤◌, ◌<◌}
use native.Mathlib.Nat.{le_of_suc-le-suc, not-suc-le-zero}
use native.Mathlib.Decide.{ℕ_discrete}
use native.Mathlib.Omega.{arith}
use lib.Dec.{eqb, leb}
use lib.ListN.{length, get_or}
use borrow.Author.Tests.{leb-false, le-leb, lt-leb, eqb-false, eq-eqb, ne_eqb}
use Rattle.game.specs.Table.{member}
use Rattle.game.proofs.Bools.{or_left, or_right, or-neither, neither-or}
use Rattle.order.specs.Order.{bad_entry}

-- a list with and without a bad entry, taken apart and put together
module _ (n v : ℕ) (vs : List ℕ) where
  pub bad-large : n ≤ v → bad_entry n (v ∷ vs) ≡ true
  unfolding bad_entry
  bad-large h = or_left (leb n v) (member v vs || bad_entry n vs) (le-leb n v h)

  pub bad-again : member v vs ≡ true → bad_entry n (v ∷ vs) ≡ true
  unfolding bad_entry
  bad-again m = or_right (leb n v) (member v vs || bad_entry n vs) (or_left (member v vs) (bad_entry n vs) m)

  bad-tail : bad_entry n vs ≡ true → bad_entry n (v ∷ vs) ≡ true
  unfolding bad_entry
  bad-tail e = or_right (leb n v) (member v vs || bad_entry n vs) (or_right (member v vs) (bad_entry n vs) e)

  pub good-head : bad_entry n (v ∷ vs) ≡ false → (v < n) × (member v vs ≡ false)
  unfolding bad_entry
  good-head e =
      let p = or-neither (leb n v) (member v vs || bad_entry n vs) e in
      (leb-false n v p.0, (or-neither (member v vs) (bad_entry n vs) p.1).0)

  pub good-tail : bad_entry n (v ∷ vs) ≡ false → bad_entry n vs ≡ false
  unfolding bad_entry
  good-tail e = (or-neither (member v vs) (bad_entry n vs) (or-neither (leb n v) (member v vs || bad_entry n vs) e).1).1

  pub good-cons : v < n → member v vs ≡ false → bad_entry n vs ≡ false → bad_entry n (v ∷ vs) ≡ false
  unfolding bad_entry
  good-cons h m e = neither-or (leb n v) (member v vs || bad_entry n vs) (lt-leb n v h) (neither-or (member v vs) (bad_entry n vs) m e)

pub good-entry : (n : ℕ) (vs : List ℕ) → bad_entry n vs ≡ false → (i : ℕ) → i < length vs → get_or vs i 0 < n
good-entry n [] e i h = absurd (not-suc-le-zero h)
good-entry n (v ∷ vs) e zero h = (good-head n v vs e).0
good-entry n (v ∷ vs) e (suc i) h = good-entry n vs (good-tail n v vs e) i (le_of_suc-le-suc h)

-- a bad entry of the end of a list is a bad entry of the whole
pub bad-append : (n : ℕ) (us vs : List ℕ) → bad_entry n vs ≡ true → bad_entry n (us ++ vs) ≡ true
bad-append n [] vs e = e
bad-append n (u ∷ us) vs e = bad-tail n u (us ++ vs) (bad-append n us vs e)

-- a number that is not in a list differs from its head and is not in its tail
not-head : (v w : ℕ) (ws : List ℕ) → member v (w ∷ ws) ≡ false → v ≡ w → ⊥
unfolding member
not-head v w ws e = eqb-false v w (or-neither (eqb v w) (member v ws) e).0

not-tail : (v w : ℕ) (ws : List ℕ) → member v (w ∷ ws) ≡ false → member v ws ≡ false
unfolding member
not-tail v w ws e = (or-neither (eqb v w) (member v ws) e).1

not-cons : (v w : ℕ) (ws : List ℕ) → (v ≡ w → ⊥) → member v ws ≡ false → member v (w ∷ ws) ≡ false
unfolding member
not-cons v w ws d e = neither-or (eqb v w) (member v ws) (ne_eqb v w d) e

-- a list without the first entry that is v
without : ℕ → List ℕ → List ℕ
without v [] = []
without v (w ∷ ws) = cond (eqb v w) ws (w ∷ without v ws)

module _ (v : ℕ) where
  without-same : (w : ℕ) (ws : List ℕ) → v ≡ w → without v (w ∷ ws) ≡ ws
  unfolding without
  without-same w ws e = rw (eq-eqb v w e)

  without_other : (w : ℕ) (ws : List ℕ) → (v ≡ w → ⊥) → without v (w ∷ ws) ≡ w ∷ without v ws
  unfolding without
  without_other w ws d = rw (ne_eqb v w d)

  without-length : (ws : List ℕ) → length ws ≤ suc (length (without v ws))
  unfolding without
  without-length [] = omega arith
  without-length (w ∷ ws) =
      by_cases (ℕ_discrete v w)
      (λ e. rw (without-same w ws e) (omega arith))
      (λ d. rw (without_other w ws d) (omega (arith, without-length ws)))

  without-member : (u : ℕ) (ws : List ℕ) → member u ws ≡ false → member u (without v ws) ≡ false
  unfolding without
  without-member u [] e = e
  without-member u (w ∷ ws) e =
      by_cases (ℕ_discrete v w)
      (λ q. rw (without-same w ws q) (not-tail u w ws e))
      (λ d. rw (without_other w ws d) (not-cons u w (without v ws) (not-head u w ws e) (without-member u ws (not-tail u w ws e))))

-- entries below n + 1 of which none is n are below n
good-lower : (n : ℕ) (vs : List ℕ) → bad_entry (suc n) vs ≡ false → member n vs ≡ false → bad_entry n vs ≡ false
unfolding bad_entry
good-lower n [] e m = refl
good-lower n (v ∷ vs) e m =
    let h = good-head (suc n) v vs e in
    let d = not-head n v vs m in
    good-cons n v vs (omega arith) h.1 (good-lower n vs (good-tail (suc n) v vs e) (not-tail n v vs m))

good-without : (n : ℕ) (vs : List ℕ) → bad_entry (suc n) vs ≡ false → bad_entry n (without n vs) ≡ false
unfolding bad_entry without
good-without n [] e = refl
good-without n (v ∷ vs) e =
    let h = good-head (suc n) v vs e in
    let t = good-tail (suc n) v vs e in
    by_cases (ℕ_discrete n v)
    (λ q. rw (without-same n v vs q) (good-lower n vs t (rw q h.1)))
    (λ (d : n ≡ v → ⊥). rw (without_other n v vs d) (good-cons n v (without n vs) (omega arith) (without-member n v vs h.1) (good-without n vs t)))

-- the pigeonhole: numbers below n of which none stands twice are at most n
pub good_length : (n : ℕ) (vs : List ℕ) → bad_entry n vs ≡ false → length vs ≤ n
good_length zero [] e = omega arith
good_length zero (v ∷ vs) e = absurd (not-suc-le-zero (good-head 0 v vs e).0)
good_length (suc n) vs e = omega (arith, without-length n vs, good_length n (without n vs) (good-without n vs e))

-- so n of them are all the numbers below n
pub good-all : (n : ℕ) (vs : List ℕ) → bad_entry n vs ≡ false → n ≤ length vs → (v : ℕ) → v < n → member v vs ≡ true
good-all n vs e l v h = go (member v vs) refl
  where
    go : (b : Bool) → member v vs ≡ b → member v vs ≡ true
    go true m = m
    go false m = absurd (omega (arith, good_length n (v ∷ vs) (good-cons n v vs h m e)))
