use Rattle.refusal.specs.Refusal.{wrong_length}
use Rattle.compare.proofs.wrong_compared.Goals as goal

pub returns : goal.returns
unfolding wrong_length
returns c = simp c.bad_work.ensures
