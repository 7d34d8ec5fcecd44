use mathlib.Core.Path.{◌∙◌}
use Rattle.exports.proofs.niqastul_query.Goals as goal

pub returns : goal.returns
returns c = c.hand_place.ensures ∙ c.locate-answer.ensures
