-- The even share of every accepted report.
-- Assumes nothing.
use mathlib.Core.Path.{◌≡◌, sym, subst}
use mathlib.Core.List.{List}
use Prim.Native.Nat.{ℕ}
use Rattle.game.specs.Net.{Net, total}
use Rattle.refusal.specs.Verdict.{accepted}
use Rattle.share.specs.Share.{Even}
use Rattle.share.proofs.Even.{share-even}
use Rattle.cost.specs.declared.Totals.{Totals}
use Rattle.cost.specs.Figures.{share_of, totals_of}
use Rattle.report.specs.Report.{Lent, report_outcome}
use Rattle.report.proofs.Own.{accepted-totals}
use Rattle.report.proofs.Together.{some_block}

-- "The quotient times k plus the remainder is the total, and the remainder is below k"
pub report-share : (of : Net) (B k : ℕ) (xs : List ℕ) (was : Lent) (totals : Totals) → (report_outcome of B k xs was).verdict ≡ accepted totals → Even (total of) k totals.share
unfolding totals_of share_of
report-share of B k xs was totals answer =
    subst (λ (t : Totals). Even (total of) k t.share) (sym (accepted-totals of B k xs was totals answer)) (share-even (total of) k (some_block of B k xs was answer))
