-- What is known of a vertex when its bucket is counted, case by case.
-- Assumes nothing.
use mathlib.Core.Path.{◌≡◌, refl}
use Prim.Native.Nat.{ℕ, ◌+◌}
use borrow.Author.Tests.{eq-eqb, ne_eqb}
use Rattle.block_count.specs.WaitingSteps.{unmet}
use Rattle.block_count.specs.CountingSteps.{known, known_at}

-- a bucket is counted: not all blocks were met, or all, of which there is but one, or more and no edge leads up, or some does
module _ (k up size count read : ℕ) where
  pub known-fewer : (count ≡ k → ⊥) → known (up + size) 0 ≡ known_at k up size count read
  unfolding known_at
  known-fewer d = rw (ne_eqb count k d) refl

  pub known-one : count ≡ k → k ≡ 1 → known 1 0 ≡ known_at k up size count read
  unfolding known_at
  known-one e o = rw (eq-eqb count k e, eq-eqb k 1 o) refl

  pub known_read : count ≡ k → (k ≡ 1 → ⊥) → up ≡ 0 → known read 0 ≡ known_at k up size count read
  unfolding known_at
  known_read e o w = rw (eq-eqb count k e, ne_eqb k 1 o, eq-eqb up 0 w) refl

  pub known-later : count ≡ k → (k ≡ 1 → ⊥) → (up ≡ 0 → ⊥) → known 0 (read + unmet) ≡ known_at k up size count read
  unfolding known_at
  known-later e o w = rw (eq-eqb count k e, ne_eqb k 1 o, ne_eqb up 0 w) refl
