use Rattle.cost.specs.Figures.{totals}
use Rattle.cost.specs.Steps.{summed}
use Rattle.cost.proofs.sum_up.Goals as goal

pub returns : goal.returns
unfolding summed
returns c = λ i. totals (c.bound-bound.ensures i) (c.volume-volume.ensures i) (c.even_share-share.ensures i)
