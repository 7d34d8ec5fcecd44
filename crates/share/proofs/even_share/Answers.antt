use mathlib.Core.Path.{refl, ap₂, ◌∙◌}
use Rattle.share.specs.Share.{even_share}
use Rattle.share.proofs.even_share.Goals as goal

pub returns : goal.returns
returns c = c.of.ensures ∙ ap₂ even_share c.total-total.ensures refl
