use mathlib.Core.Path.{sym}
use Rattle.refusal.specs.Refusal.{wrong_length}
use Rattle.divide.proofs.Refused.{weights-first}
use Rattle.divide.proofs.tables.wrong_tables.Goals as goal

pub returns : goal.returns
unfolding wrong_length
returns c = sym (weights-first _ _ _ _ _ c.wrong_division.ensures)
