-- Runs of stores into a table: they follow on one another, and what they fill stands behind what was there before them.
-- Assumes nothing.
use mathlib.Core.Path.{◌≡◌}
use mathlib.Core.List.{List, [], ◌∷◌, ◌++◌}
use Prim.Native.Nat.{ℕ, suc, ◌+◌, ◌≤◌}
use native.Mathlib.Nat.{add-zero, add-suc, suc-add}
use native.Mathlib.Omega.{arith}
use lib.ListN.{length, take, drop, set, length-append}
use lib.Seq.{sets, sets-eq, take_at, length-take-le}

-- a run that begins where one ended
pub stores-append : (xs vs ws : List ℕ) (i : ℕ) → sets (sets xs i vs) (i + length vs) ws ≡ sets xs i (vs ++ ws)
stores-append xs [] ws i = rw add-zero
stores-append xs (v ∷ vs) ws i = rw (add-suc, ← suc-add) (stores-append (set xs i v) vs ws (suc i))

-- the front of a table up to the end of a run
pub stores-take : (xs vs : List ℕ) (i : ℕ) → i + length vs ≤ length xs → take (i + length vs) (sets xs i vs) ≡ take i xs ++ vs
stores-take xs vs i h =
    let f : length (take i xs) ≡ i = length-take-le i xs (omega arith) in
    rw (sets-eq vs xs i h) (take_at (take i xs ++ vs) (drop (i + length vs) xs) (i + length vs) (simp length-append (omega arith)))
