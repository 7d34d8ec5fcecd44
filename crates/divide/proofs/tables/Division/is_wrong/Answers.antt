use Rattle.divide.proofs.tables.Division.is_wrong.Goals as goal

pub returns : goal.returns
returns c = c.wrong_division.ensures
