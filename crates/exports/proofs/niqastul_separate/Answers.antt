use Rattle.exports.proofs.Answered.{filled-own}
use Rattle.exports.proofs.niqastul_separate.Goals as goal

pub returns : goal.returns
returns c = filled-own _ _ _ c.hand_separator.ensures.0 c.hand_separator.ensures.1 c.separate-answer.ensures
