use Rattle.std.proofs.Common.{rules}
use Rattle.exports.proofs.Answered.{filled-own}
use Rattle.exports.proofs.niqastul_report.Goals as goal

pub returns : goal.returns
returns c = search (rules, filled-own _ _ _ c.hand_totals.ensures.0 c.hand_totals.ensures.1 c.report-answer.ensures.outcome)
