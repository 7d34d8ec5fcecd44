-- The lightest block: what it is among the loads, and that there is one.
-- Assumes nothing.
use mathlib.Core.Path.{◌≡◌, refl, sym, subst}
use mathlib.Core.Logic.{◌⊎◌, inl, inr, ⊎_elim}
use mathlib.Core.Bool.{Bool, true, false, cond}
use mathlib.Core.List.{List}
use Prim.Native.Nat.{ℕ, zero, suc, ◌≤◌, ◌<◌}
use native.Mathlib.Omega.{arith}
use lib.Dec.{ltb}
use lib.ListN.{length, get_or}
use borrow.Author.Tests.{ltb-true, ltb-false}
use Rattle.game.specs.Table.{tabulate_from}
use Rattle.cut.specs.Cut.{best}
use Rattle.pack.specs.Lightest.{lightest}
use Rattle.cut.proofs.Lists.{stretch, stretch-rising, stretch-in, in-stretch}
use Rattle.cut.proofs.Best.{Best, best-is, lighter}

-- j is the lightest of the blocks, of equals the lowest
pub record Lightest (loads : List ℕ) (j : ℕ) : Type 0 where
  pub inside : j < length loads
  pub least : (i : ℕ) → i < length loads → get_or loads j 0 ≤ get_or loads i 0
  pub first : (i : ℕ) → i < length loads → (get_or loads j 0 < get_or loads i 0) ⊎ (j ≤ i)

lightest-unique : {loads : List ℕ} {i j : ℕ} → Lightest loads i → Lightest loads j → i ≡ j
lightest-unique {i = i} {j = j} a b = omega (arith, below a b, below b a)
  where
    below : {loads : List ℕ} {i j : ℕ} → Lightest loads i → Lightest loads j → i ≤ j
    below {loads} {i} {j} a b =
        ⊎_elim (λ (l : get_or loads i 0 < get_or loads j 0). absurd (omega (arith, b.least i a.inside))) (λ l. l) (a.first j b.inside)

ahead : List ℕ → ℕ → ℕ → Bool
ahead loads i j = ltb (get_or loads i 0) (get_or loads j 0)

chosen : (loads : List ℕ) (k : ℕ) → Best (ahead loads) (stretch 0 (suc k)) (best (ahead loads) 0 (stretch 0 (suc k)))
unfolding best tabulate_from ahead
chosen loads k =
    subst (λ (y : ℕ). Best (ahead loads) (stretch 0 (suc k)) (best (ahead loads) y (stretch 1 k))) (sym (same (ahead loads 0 0))) (best-is (lighter (λ (i : ℕ). get_or loads i 0)) 0 (stretch 1 k) (stretch-rising 1 k))
  where
    same : (b : Bool) → ◌≡◌ {A = ℕ} (cond b 0 0) 0
    same true = refl
    same false = refl

pub lightest-is : (loads : List ℕ) → 0 < length loads → Lightest loads (lightest loads)
unfolding lightest ahead
lightest-is loads h = go (length loads) refl
  where
    go : (n : ℕ) → length loads ≡ n → Lightest loads (best (ahead loads) 0 (stretch 0 n))
    go zero e = absurd (omega (arith, h))
    go (suc k) e =
        let b = chosen loads k in
        let j = best (ahead loads) 0 (stretch 0 (suc k)) in
        record {
          inside = omega (arith, (stretch-in 0 (suc k) b.inside).1, e);
          least = λ i l. ltb-false (get_or loads i 0) (get_or loads j 0) (b.unbeaten i (in-stretch 0 (suc k) (omega arith) (omega (arith, e))));
          first =
              λ i l.
              ⊎_elim (λ f. inl (ltb-true (get_or loads j 0) (get_or loads i 0) f)) (λ f. inr f)
              (b.first i (in-stretch 0 (suc k) (omega arith) (omega (arith, e))));
        }

pub lightest-found : {loads : List ℕ} {j : ℕ} → Lightest loads j → j ≡ lightest loads
lightest-found {loads} a = lightest-unique a (lightest-is loads (omega (arith, a.inside)))
