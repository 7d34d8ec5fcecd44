-- Lists by rising rank: the ranks of a stretch, a list without one of its ranks, and the sum over a list.
-- Assumes nothing.
use mathlib.Core.Path.{◌≡◌, refl, sym, ap}
use mathlib.Core.Logic.{◌≢◌, ⊎_elim, by_cases}
use mathlib.Core.Bool.{not}
use mathlib.Core.List.{List, [], ◌∷◌, map, Memᴰ}
use Prim.Native.Nat.{ℕ, zero, suc, ◌+◌, ◌≤◌, ◌<◌}
use native.Mathlib.Nat.{le_refl}
use native.Mathlib.Decide.{ℕ_discrete}
use native.Mathlib.Omega.{arith}
use lib.Dec.{eqb}
use lib.ListN.{length}
use borrow.Author.Tests.{eq-eqb, ne_eqb, eqb-false, not-true}
use Rattle.game.specs.Table.{tabulate_from, sum}
use Rattle.game.proofs.Lists.{Rising, done, more, filtered-take, filtered-leave, filtered-in, in-filtered, filtered-length, rising-over, rising-filtered, rising-ext}
use Rattle.cut.specs.Cut.{without}

-- the k ranks from a on
abbrev pub stretch : ℕ → ℕ → List ℕ
stretch a k = tabulate_from a k (λ (y : ℕ). y)

pub stretch-rising : (a k : ℕ) → Rising a (stretch a k)
unfolding tabulate_from
stretch-rising a zero = done
stretch-rising a (suc k) = more (le_refl a) (stretch-rising (suc a) k)

pub stretch-in : (a k : ℕ) {z : ℕ} → Memᴰ z (stretch a k) → (a ≤ z) × (z < a + k)
unfolding tabulate_from
stretch-in a zero m = absurd (mathlib.Core.List.Memᴰ.not-nil m)
stretch-in a (suc k) {z} m =
    ⊎_elim (λ (e : z ≡ a). (omega arith, omega arith)) (λ t. let i = stretch-in (suc a) k t in (omega arith, omega arith)) (mathlib.Core.List.Memᴰ.cases_cons m)

pub in-stretch : (a k : ℕ) {z : ℕ} → a ≤ z → z < a + k → Memᴰ z (stretch a k)
unfolding tabulate_from
in-stretch a zero h l = absurd (omega arith)
in-stretch a (suc k) {z} h l =
    by_cases (ℕ_discrete z a) (λ e. mathlib.Core.List.Memᴰ.head e) (λ (d : z ≢ a). mathlib.Core.List.Memᴰ.tail (in-stretch (suc a) k (omega arith) (omega arith)))

-- all but h
module _ (h : ℕ) where
  pub without_in : (ys : List ℕ) {z : ℕ} → Memᴰ z (without h ys) → Memᴰ z ys × (z ≢ h)
  unfolding without
  without_in ys {z} m = let i = filtered-in (λ (v : ℕ). not (eqb v h)) ys m in (i.0, eqb-false z h (not-true (eqb z h) i.1))

  pub in_without : {ys : List ℕ} {z : ℕ} → Memᴰ z ys → z ≢ h → Memᴰ z (without h ys)
  unfolding without
  in_without {z = z} m d = in-filtered (λ (v : ℕ). not (eqb v h)) m (ap not (ne_eqb z h d))

  pub rising-without : {a : ℕ} {ys : List ℕ} → Rising a ys → Rising a (without h ys)
  unfolding without
  rising-without r = rising-filtered (λ (v : ℕ). not (eqb v h)) r

  without-here : {y : ℕ} (ys : List ℕ) → y ≡ h → without h (y ∷ ys) ≡ without h ys
  unfolding without
  without-here {y} ys e = filtered-leave (λ (v : ℕ). not (eqb v h)) ys (ap not (eq-eqb y h e))

  without_other : {y : ℕ} (ys : List ℕ) → y ≢ h → without h (y ∷ ys) ≡ y ∷ without h ys
  unfolding without
  without_other {y} ys d = filtered-take (λ (v : ℕ). not (eqb v h)) ys (ap not (ne_eqb y h d))

  without-length : (ys : List ℕ) → length (without h ys) ≤ length ys
  unfolding without
  without-length ys = filtered-length (λ (v : ℕ). not (eqb v h)) ys

  pub without-shorter : {ys : List ℕ} → Memᴰ h ys → length (without h ys) < length ys
  without-shorter (mathlib.Core.List.Memᴰ.head {x = y} {xs = ys} e) = rw (without-here ys (sym e)) (omega (arith, without-length ys))
  without-shorter (mathlib.Core.List.Memᴰ.tail {x = y} {xs = ys} m) =
      by_cases (ℕ_discrete y h)
      (λ e. rw (without-here ys e) (omega (arith, without-shorter m)))
      (λ d. rw (without_other ys d) (omega (arith, without-shorter m)))

-- the sum over a list, under a rule that gives each entry a number
module _ (c : ℕ → ℕ) where
  pub sum-entry-in : {z : ℕ} {ys : List ℕ} → Memᴰ z ys → c z ≤ sum (map c ys)
  unfolding sum
  sum-entry-in {z = z} (mathlib.Core.List.Memᴰ.head {x = y} e) = omega (arith, ap c e)
  sum-entry-in (mathlib.Core.List.Memᴰ.tail m) = omega (arith, sum-entry-in m)

  pub sum-nought : (ys : List ℕ) → ((z : ℕ) → Memᴰ z ys → c z ≡ 0) → sum (map c ys) ≡ 0
  unfolding sum
  sum-nought [] f = refl
  sum-nought (y ∷ ys) f = omega (arith, f y (mathlib.Core.List.Memᴰ.head refl), sum-nought ys (λ z m. f z (mathlib.Core.List.Memᴰ.tail m)))

  without-none : (h : ℕ) {a : ℕ} {ys : List ℕ} → Rising a ys → h < a → without h ys ≡ ys
  without-none h {ys = ys} r l =
      rising-ext (rising-without h r) r
      (λ z m. (without_in h ys m).0)
      (λ z m. in_without h m (λ (e : z ≡ h). omega (arith, rising-over r m)))

  -- one taken out of a list by rising rank
  pub sum-without : (h : ℕ) {a : ℕ} {ys : List ℕ} → Rising a ys → Memᴰ h ys → sum (map c ys) ≡ c h + sum (map c (without h ys))
  unfolding sum
  sum-without h done m = absurd (mathlib.Core.List.Memᴰ.not-nil m)
  sum-without h (more {y = y} {ys = ys} l r) m =
      by_cases (ℕ_discrete y h)
      (λ (e : y ≡ h). rw (without-here h ys e, without-none h r (omega arith)) (omega (arith, ap c e)))
      (λ (d : y ≢ h).
      let k : Memᴰ h ys = ⊎_elim (λ e. absurd (d (sym e))) (λ t. t) (mathlib.Core.List.Memᴰ.cases_cons m) in
      rw (without_other h ys d) (omega (arith, sum-without h r k)))

-- fewer ranks come to no more
pub sum-within : (c : ℕ → ℕ) {a b : ℕ} {xs ys : List ℕ} → Rising a xs → Rising b ys → ((z : ℕ) → Memᴰ z xs → Memᴰ z ys)
    → sum (map c xs) ≤ sum (map c ys)
unfolding sum
sum-within c done r f = omega arith
sum-within c {ys = ys} (more {y = x} {ys = xs} l r) s f =
    let m : Memᴰ x ys = f x (mathlib.Core.List.Memᴰ.head refl) in
    let i : sum (map c xs) ≤ sum (map c (without x ys)) =
    sum-within c r (rising-without x s) (λ z k. in_without x (f z (mathlib.Core.List.Memᴰ.tail k)) (λ (e : z ≡ x). omega (arith, rising-over r k))) in
    omega (arith, sum-without c x s m)

-- rules that agree on a list give it one sum
pub sum-agree : (c d : ℕ → ℕ) (ys : List ℕ) → ((z : ℕ) → Memᴰ z ys → c z ≡ d z) → sum (map c ys) ≡ sum (map d ys)
unfolding sum
sum-agree c d [] f = refl
sum-agree c d (y ∷ ys) f = omega (arith, f y (mathlib.Core.List.Memᴰ.head refl), sum-agree c d ys (λ z m. f z (mathlib.Core.List.Memᴰ.tail m)))
