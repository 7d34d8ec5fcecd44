-- The ancestors of a vertex as a list: they are the parent and the parent's ancestors, and they rise.
-- Assumes nothing.
use mathlib.Core.Path.{◌≡◌, ap, ◌∙◌}
use mathlib.Core.Logic.{◌≢◌}
use mathlib.Core.List.{List, [], ◌∷◌}
use Prim.Native.Nat.{ℕ, zero, suc, ◌+◌, ◌≤◌, ◌<◌}
use native.Mathlib.Omega.{arith}
use lib.Dec.{ltb}
use lib.ListN.{length, get_or}
use borrow.Author.Tests.{ltb-true, lt-ltb, le-ltb}
use Rattle.game.specs.Game.{absent}
use Rattle.game.specs.Tree.{climb, ancestors}
use Rattle.game.proofs.Bools.{test-cases}
use Rattle.game.proofs.Lists.{Rising, done, more}
use Rattle.game.proofs.Sound.{Sound, sound-parent}
use Rattle.game.proofs.Links.{parent-inside}

module _ {p : List ℕ} (s : Sound p) (u : length p ≤ absent) where
  -- a parent that is of the table is higher
  pub parent-higher : (x : ℕ) → get_or p x absent < length p → (x < get_or p x absent) × (x < length p)
  parent-higher x h = let d : get_or p x absent ≢ absent = omega arith in ((sound-parent s x (parent-inside p x d) d).0, parent-inside p x d)

  -- a climb of enough steps goes no further with one step more
  climb-enough : (k x : ℕ) → length p ≤ x + k → climb k p x ≡ climb (suc k) p x
  unfolding climb
  climb-enough zero x h =
      test-cases (ltb (get_or p x absent) (length p))
      (λ t. absurd (omega (arith, ltb-true (get_or p x absent) (length p) t, (parent-higher x (ltb-true (get_or p x absent) (length p) t)).0)))
      (λ t. rw t)
  climb-enough (suc k) x h =
      test-cases (ltb (get_or p x absent) (length p))
      (λ t. rw t (ap (λ (ys : List ℕ). get_or p x absent ∷ ys) (climb-enough k (get_or p x absent) (omega (arith, (parent-higher x (ltb-true (get_or p x absent) (length p) t)).0)))))
      (λ t. rw t)

  -- the ancestors of a vertex with a parent are the parent and its ancestors
  pub ancestors-up : (x : ℕ) → get_or p x absent < length p → ancestors p x ≡ get_or p x absent ∷ ancestors p (get_or p x absent)
  unfolding ancestors climb
  ancestors-up x h = climb-enough (length p) x (omega arith) ∙ rw (lt-ltb (get_or p x absent) (length p) h)

  -- a vertex without a parent has none
  pub ancestors-none : (x : ℕ) → length p ≤ get_or p x absent → ancestors p x ≡ []
  unfolding ancestors climb
  ancestors-none x h = climb-enough (length p) x (omega arith) ∙ rw (le-ltb (get_or p x absent) (length p) h)

  climb-rising : (k x : ℕ) → Rising (suc x) (climb k p x)
  unfolding climb
  climb-rising zero x = done
  climb-rising (suc k) x =
      test-cases (ltb (get_or p x absent) (length p))
      (λ t. rw t (more (parent-higher x (ltb-true (get_or p x absent) (length p) t)).0 (climb-rising k (get_or p x absent))))
      (λ t. rw t done)

  -- the ancestors of x rise from above x
  pub ancestors-rising : (x : ℕ) → Rising (suc x) (ancestors p x)
  unfolding ancestors
  ancestors-rising x = climb-rising (length p) x
