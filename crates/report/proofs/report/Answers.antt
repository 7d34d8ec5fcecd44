use mathlib.Core.Path.{refl, sym, ◌∙◌}
use Rattle.game.specs.Net.{net}
use Rattle.growth.specs.Work.{work_of}
use Rattle.growth.proofs.Rooms.{same-room}
use Rattle.report_write.specs.Tables.{written_in}
use Rattle.refusal.specs.Numbers.{verdict}
use Rattle.report.specs.Report.{lent}
use Rattle.report.proofs.Refused.{lengths-told, early-told, lengths-right, ready}
use Rattle.report.proofs.Outcome.{ends-early, ends-late, write-ready, ends-accepted}
use Rattle.report.proofs.report.Goals as goal

pub report_early-requires : goal.report_early-requires
report_early-requires c =
    λ h. let a = c.args in
    (lengths-right _ _ _ (lent (written_in a.division.now a.figures.now)
    (net a.compared_parents.now a.compared_weights.now) (work_of a.ends.now a.jump.now a.lower.now)) (sym (lengths-told _ _ _ _ c.wrong_lengths-wrong.ensures) ∙ h)).sized.weights

pub returns-in_err-report_early-clause-outcome : goal.returns-in_err-report_early-clause-outcome
returns-in_err-report_early-clause-outcome c =
    ends-early _ _ _ _ _ _ _ c.from_residual.ensures.1 c.in_err-report_early.ensures (lengths-told _ _ _ _ c.wrong_lengths-wrong.ensures)

pub compare-requires : goal.compare-requires
compare-requires c =
    (ready _ _ _ _ (lent (written_in c.args.division.now c.args.figures.now) _ _) (early-told _ _ _ _ c.wrong_lengths-wrong.ensures _ c.in_ok-report_early.ensures)).compares

pub returns-then-not-compare-clause-outcome : goal.returns-then-not-compare-clause-outcome
unfolding verdict
returns-then-not-compare-clause-outcome c =
    ends-late _ _ _ _ _
    (early-told _ _ _ _ c.wrong_lengths-wrong.ensures _ c.in_ok-report_early.ensures)
    c.compare.ensures c.if-not-compare.true

pub write_report-requires : goal.write_report-requires
write_report-requires c =
    let z =
    (early-told _ _ _ _ c.wrong_lengths-wrong.ensures _ c.in_ok-report_early.ensures) in
    let l = (ready _ _ _ _ (lent (written_in c.args.division.now c.args.figures.now) (net c.args.compared_parents.now
    c.args.compared_weights.now) (work_of c.args.ends.now c.args.jump.now c.args.lower.now)) z).lengths in (
      write-ready _ _ _ _ (lent (written_in c.args.division.now c.args.figures.now) (net c.args.compared_parents.now
          c.args.compared_weights.now) (work_of c.args.ends.now c.args.jump.now c.args.lower.now)) z c.compare.ensures c.if-not-compare.false,
      l.taken,
      c.compare.auto.jump ∙ l.compared.jump,
    )

pub returns-clause-outcome : goal.returns-clause-outcome
unfolding verdict
returns-clause-outcome c =
    let k = c.compare.auto in
    ends-accepted _ _ _ _ _
    (early-told _ _ _ _ c.wrong_lengths-wrong.ensures _ c.in_ok-report_early.ensures)
    c.compare.ensures c.if-not-compare.false refl c.write_report.ensures.outcome
    (same-room _ _ _ _ _ _ k.ends k.jump k.lower)
