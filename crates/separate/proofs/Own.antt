-- The call lent a net's own edges is never refused with 23; on a valid net it is never refused with 30.
-- Assumes nothing.
use mathlib.Core.Path.{◌≡◌}
use mathlib.Core.Bool.{Bool}
use mathlib.Core.List.{List, []}
use Prim.Native.Nat.{ℕ}
use native.Mathlib.Omega.{arith}
use lib.ListN.{length}
use Rattle.game.specs.Edge.{ties}
use Rattle.game.specs.Net.{Net, net_of}
use Rattle.refusal.specs.Verdict.{refused}
use Rattle.refusal.proofs.Never.{list-not, first-not, end-not, other-not, false-not, verdict-not}
use Rattle.forest.specs.Promise.{Valid}
use Rattle.forest.proofs.Promise.{valid-undamaged}
use Rattle.refusal.specs.Refusal.{list_refusal}
use Rattle.compare.specs.Compare.{unlike}
use Rattle.compare.proofs.Unlike.{same-passes}
use Rattle.separate.specs.Refused.{separate_early}
use Rattle.separate.specs.Separate.{SeparateTables, wrong_separate, grown_refusal, separate_refusal, separate_outcome}

module _ (of : Net) (a b : ℕ) (xs : List ℕ) where
  read-not-23 : (wrong : Bool) → separate_early of a b xs wrong ≡ 23 → ⊥
  unfolding separate_early
  read-not-23 wrong =
      other-not 22 _ 1 _ (omega arith) (other-not 22 _ 2 _ (omega arith) (other-not 22 _ 30 _ (omega arith) (other-not 22 _ 4 _ (omega arith)
      (first-not 22 (list_refusal (length of.parents) xs) _ (list-not 22 (length of.parents) xs (omega arith) (omega arith) (omega arith)) (end-not 22)))))

  pub own-not-23 : (was : SeparateTables) → of ≡ net_of (length of.parents) (ties xs) → (separate_outcome of a b xs was).verdict ≡ refused 23 → ⊥
  unfolding separate_outcome separate_refusal grown_refusal
  own-not-23 was is =
      verdict-not _ _ 23
      (first-not 22 (separate_early of a b xs (wrong_separate of xs was)) _ (read-not-23 (wrong_separate of xs was))
      (first-not 22 (grown_refusal of a b (ties xs)) []
      (first-not 22 (unlike of (ties xs)) _ (λ (d : unlike of (ties xs) ≡ 23). omega (arith, d, same-passes of (ties xs) is)) (other-not 22 _ 31 _ (omega arith) (end-not 22)))
      (end-not 22)))

  read-not-30 : (wrong : Bool) → Valid of → separate_early of a b xs wrong ≡ 30 → ⊥
  unfolding separate_early
  read-not-30 wrong v =
      other-not 29 _ 1 _ (omega arith) (other-not 29 _ 2 _ (omega arith) (false-not 29 _ 30 _ (valid-undamaged v) (other-not 29 _ 4 _ (omega arith)
      (first-not 29 (list_refusal (length of.parents) xs) _ (list-not 29 (length of.parents) xs (omega arith) (omega arith) (omega arith)) (end-not 29)))))

  pub separate-not-30 : (was : SeparateTables) → Valid of → (separate_outcome of a b xs was).verdict ≡ refused 30 → ⊥
  unfolding separate_outcome separate_refusal grown_refusal unlike
  separate-not-30 was v =
      verdict-not _ _ 30
      (first-not 29 (separate_early of a b xs (wrong_separate of xs was)) _ (read-not-30 (wrong_separate of xs was) v)
      (first-not 29 (grown_refusal of a b (ties xs)) [] (other-not 29 _ 23 _ (omega arith) (other-not 29 _ 31 _ (omega arith) (end-not 29))) (end-not 29)))
