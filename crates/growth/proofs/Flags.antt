-- A const parameter of type bool, which proofs have as a number: 0 where it is false.
-- Assumes nothing.
use mathlib.Core.Path.{◌≡◌, refl}
use mathlib.Core.Bool.{Bool, cond, not}
use mathlib.Core.Logic.{◌≢◌}
use Prim.Native.Nat.{ℕ}
use native.Mathlib.Omega.{arith}
use lib.Dec.{eqb}
use Rattle.std.proofs.lemmas.Bool.Decides.{nat_tests}

abbrev pub is_set : ℕ → Bool
is_set k = not (eqb k 0)

-- what is left of an entry that was read: 0, or the entry itself
pub left-clear : {k : ℕ} (u : ℕ) → k ≡ 0 → 0 ≡ cond (is_set k) u 0
left-clear u e = rw e refl

pub left-kept : {k : ℕ} (u : ℕ) → k ≢ 0 → u ≡ cond (is_set k) u 0
left-kept u d = grind (arith, nat_tests)
