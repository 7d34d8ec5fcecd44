use Rattle.exports.proofs.Answered.{filled-own}
use Rattle.exports.proofs.niqastul_add.Goals as goal

pub returns : goal.returns
returns c = filled-own _ _ _ c.hand_rank.ensures.0 c.hand_rank.ensures.1 c.add-answer.ensures
