-- Two lists read one behind the other: how many edges they have, and whether those are too many.
-- Assumes nothing.
use mathlib.Core.Path.{◌≡◌}
use mathlib.Core.Bool.{true, false}
use mathlib.Core.List.{List, ◌++◌}
use Prim.Native.Nat.{ℕ, ◌+◌, ◌≤◌, ◌<◌}
use native.Mathlib.Omega.{arith}
use lib.Dec.{ltb}
use lib.ListN.{length, length-append}
use borrow.Author.Tests.{lt-ltb, le-ltb}
use Rattle.game.specs.Edge.{edges}
use Rattle.refusal.specs.Limits.{max_edges}

pub both-length : (old added : List ℕ) {j k : ℕ} → j ≡ length (edges old) → k ≡ length (edges added) → length (edges old ++ edges added) ≡ j + k
both-length old added p q = omega (arith, length-append (edges old) (edges added))

-- whether they are too many together
module _ (old added : List ℕ) {j k : ℕ} (p : j ≡ length (edges old)) (q : k ≡ length (edges added)) where
  pub too-many : max_edges < j + k → ltb max_edges (length (edges old ++ edges added)) ≡ true
  too-many h = lt-ltb max_edges (length (edges old ++ edges added)) (omega (arith, both-length old added p q))

  pub not-many : j + k ≤ max_edges → ltb max_edges (length (edges old ++ edges added)) ≡ false
  not-many h = le-ltb max_edges (length (edges old ++ edges added)) (omega (arith, both-length old added p q))
