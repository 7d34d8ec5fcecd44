-- A report on a net's own edges: never refused with 23, and where it is accepted, it answers its totals.
-- Assumes nothing.
use mathlib.Core.Path.{◌≡◌}
use mathlib.Core.Bool.{Bool}
use mathlib.Core.List.{List, [], ◌∷◌}
use Prim.Native.Nat.{ℕ, zero, suc}
use native.Mathlib.Omega.{arith}
use lib.ListN.{length}
use Rattle.game.specs.Edge.{ties, edges}
use Rattle.game.specs.Net.{Net, net_of}
use Rattle.refusal.proofs.Never.{list-not, first-not, end-not, other-not, false-not, judged-number, verdict-not}
use Rattle.forest.specs.Promise.{Valid}
use Rattle.forest.proofs.Promise.{valid-undamaged}
use Rattle.refusal.specs.Verdict.{accepted, refused, judged}
use Rattle.cost.specs.declared.Totals.{Totals}
use Rattle.cost.specs.Figures.{totals_of}
use Rattle.refusal.specs.Refusal.{list_refusal}
use Rattle.compare.specs.Compare.{unlike}
use Rattle.report_refusal.specs.Refused.{report_early}
use Rattle.report.specs.Report.{Lent, wrong_lent, report_refusal, report_outcome}
use Rattle.compare.proofs.Unlike.{same-passes}

-- 23 is not given before anything is compared
early-not-23 : (of : Net) (B k : ℕ) (xs : List ℕ) (wrong : Bool) → report_early of B k xs wrong ≡ 23 → ⊥
unfolding report_early
early-not-23 of B k xs wrong =
    other-not 22 _ 1 _ (omega arith) (other-not 22 _ 2 _ (omega arith) (other-not 22 _ 8 _ (omega arith) (other-not 22 _ 30 _ (omega arith)
    (first-not 22 (list_refusal (length of.parents) xs) _ (list-not 22 (length of.parents) xs (omega arith) (omega arith) (omega arith))
    (other-not 22 _ 22 _ (omega arith) (end-not 22))))))

judged-values : {X : Type 0} (k : ℕ) (values v : X) → judged k values ≡ accepted v → v ≡ values
unfolding judged
judged-values zero values v e = cc
judged-values (suc k) values v e = let z : ◌≡◌ {A = ℕ} 0 1 = cc in absurd (omega arith)

module _ (of : Net) (B k : ℕ) (xs : List ℕ) (was : Lent) where
  -- "Report lent that list is never refused with 23"
  pub own-not-23 : of ≡ net_of (length of.parents) (ties xs) → (report_outcome of B k xs was).verdict ≡ refused 23 → ⊥
  unfolding report_outcome report_refusal
  own-not-23 is e =
      first-not 22 (report_early of B k xs (wrong_lent of k xs was)) (unlike of (ties xs) ∷ []) (early-not-23 of B k xs (wrong_lent of k xs was))
      (first-not 22 (unlike of (ties xs)) [] (λ (d : unlike of (ties xs) ≡ 23). omega (arith, d, same-passes of (ties xs) is)) (end-not 22))
      (judged-number (report_refusal of B k xs was) (totals_of of (edges xs) B k) 23 e)

  -- "and, where accepted, answers this volume and this bound"
  pub accepted-totals : (totals : Totals) → (report_outcome of B k xs was).verdict ≡ accepted totals → totals ≡ totals_of of (edges xs) B k
  unfolding report_outcome
  accepted-totals totals e = judged-values (report_refusal of B k xs was) _ totals e

-- a valid net is not refused with 30
early-not-30 : (of : Net) (B k : ℕ) (xs : List ℕ) (wrong : Bool) → Valid of → report_early of B k xs wrong ≡ 30 → ⊥
unfolding report_early
early-not-30 of B k xs wrong v =
    other-not 29 _ 1 _ (omega arith) (other-not 29 _ 2 _ (omega arith) (other-not 29 _ 8 _ (omega arith) (false-not 29 _ 30 _ (valid-undamaged v)
    (first-not 29 (list_refusal (length of.parents) xs) _ (list-not 29 (length of.parents) xs (omega arith) (omega arith) (omega arith))
    (other-not 29 _ 22 _ (omega arith) (end-not 29))))))

pub report-not-30 : (of : Net) (B k : ℕ) (xs : List ℕ) (was : Lent) → Valid of → (report_outcome of B k xs was).verdict ≡ refused 30 → ⊥
unfolding report_outcome report_refusal unlike
report-not-30 of B k xs was v =
    verdict-not _ _ 30
    (first-not 29 (report_early of B k xs (wrong_lent of k xs was)) _ (early-not-30 of B k xs (wrong_lent of k xs was) v) (other-not 29 _ 23 _ (omega arith) (end-not 29)))
