use Rattle.exports.proofs.Answered.{handed-own}
use Rattle.exports.proofs.niqastul_relabel.Goals as goal

pub returns : goal.returns
returns c = handed-own _ c.number.ensures c.relabel.ensures
