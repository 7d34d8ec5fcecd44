use Rattle.std.proofs.Common.{rules}
use Rattle.exports.proofs.Answered.{handed-own}
use Rattle.exports.proofs.niqastul_divide.Goals as goal

pub returns : goal.returns
returns c = search (rules, handed-own _ c.number.ensures c.divide.ensures.outcome)
