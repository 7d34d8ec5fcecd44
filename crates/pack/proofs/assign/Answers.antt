use mathlib.Core.Path.{◌∙◌}
use Rattle.pack.proofs.Blocks.{spread-assigned}
use Rattle.pack.proofs.assign.Goals as goal

pub returns : goal.returns
returns c =
    spread-assigned c.requires.topped c.pack.ensures (c.spread.auto.block ∙ c.pack.auto.block ∙ c.requires.packable.sized) c.spread.ensures
