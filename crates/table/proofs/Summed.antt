-- Adding one table to another, entry by entry from the front.
-- Assumes nothing.
use mathlib.Core.Path.{◌≡◌, refl, sym, ◌∙◌}
use mathlib.Core.Logic.{◌≢◌, by_cases}
use mathlib.Core.List.{List, zip_with}
use Prim.Native.Nat.{ℕ, ◌+◌, ◌≤◌, ◌<◌}
use native.Mathlib.Omega.{arith}
use native.Mathlib.Decide.{ℕ_discrete}
use lib.ListN.{length, get_or, set, length-set}
use lib.Seq.{ext_get_or, get_or-set_same, get_or-set_other}
use Rattle.table.proofs.Zipped.{zip_length, zip-entry}

-- the entries below i are summed, the others as they were
pub record Summed (was other table : List ℕ) (i : ℕ) : Type 0 where
  pub long : length table ≡ length other
  pub long_was : length was ≡ length other
  pub done : (k : ℕ) → k < i → get_or table k 0 ≡ get_or was k 0 + get_or other k 0
  pub left : (k : ℕ) → i ≤ k → get_or table k 0 ≡ get_or was k 0

pub sum-start : (was other : List ℕ) → length was ≡ length other → Summed was other was 0
sum-start was other e = record { long = e; long_was = e; done = λ k h. absurd (omega arith); left = λ k h. refl }

pub sum_step : {was other table : List ℕ} {i : ℕ} → Summed was other table i → i < length other → Summed was other (set table i (get_or table i 0 + get_or other i 0)) (i + 1)
sum_step {was} {other} {table} {i} s h = record {
  long = length-set table i new ∙ s.long;
  long_was = s.long_was;
  done = λ k l. by_cases (ℕ_discrete k i)
      (λ (e : k ≡ i). rw (e, get_or-set_same table i new 0 (omega (arith, s.long))) (omega (arith, s.left i (native.Mathlib.Nat.le_refl i))))
      (λ (d : k ≢ i). get_or-set_other table i k new 0 d ∙ s.done k (omega arith));
  left = λ k l. get_or-set_other table i k new 0 (omega arith) ∙ s.left k (omega arith);
}
  where
    new : ℕ
    new = get_or table i 0 + get_or other i 0

pub sum-all : {was other table : List ℕ} {i : ℕ} → Summed was other table i → length other ≤ i → table ≡ zip_with ◌+◌ was other
sum-all {was} {other} {table} s h =
    ext_get_or 0 table (zip_with ◌+◌ was other) (s.long ∙ sym (zip_length ◌+◌ was other s.long_was ∙ s.long_was))
    (λ k l. s.done k (omega (arith, s.long)) ∙ sym (zip-entry ◌+◌ was other k 0 0 s.long_was))
