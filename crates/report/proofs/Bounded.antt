-- Of every accepted report the volume is at most the bound.
-- Assumes nothing.
use mathlib.Core.Path.{◌≡◌, sym, subst}
use mathlib.Core.List.{List}
use Prim.Native.Nat.{ℕ, ◌≤◌}
use lib.ListN.{length}
use Rattle.game.specs.Net.{Net}
use Rattle.refusal.specs.Verdict.{accepted}
use Rattle.refusal.proofs.Fault.{list-proper}
use Rattle.cost.specs.declared.Totals.{Totals}
use Rattle.cost.specs.Figures.{totals_of}
use Rattle.cost.proofs.VolumeBound.{volume-bound}
use Rattle.divide.proofs.Refused.{divide-known}
use Rattle.report.specs.Report.{Lent, report_outcome}
use Rattle.report.proofs.Own.{accepted-totals}
use Rattle.report.proofs.Refused.{ready}
use Rattle.report.proofs.Together.{passed, own-forest}

-- "Volume never exceeds bound", of what the call answers
pub report-bounded : (of : Net) (B k : ℕ) (xs : List ℕ) (was : Lent) (totals : Totals) → (report_outcome of B k xs was).verdict ≡ accepted totals → totals.volume ≤ totals.bound
unfolding totals_of
report-bounded of B k xs was totals answer =
    let r = ready of B k xs was (passed of B k xs was answer).0 in
    let d = divide-known of.parents of.weights B k was.written.division r.divides in
    subst (λ (t : Totals). t.volume ≤ t.bound) (sym (accepted-totals of B k xs was totals answer))
    (volume-bound of d.net.few (list-proper (length of.parents) xs r.faultless) (own-forest of B k xs was answer) B k)
