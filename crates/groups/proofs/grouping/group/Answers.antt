use mathlib.Core.Path.{◌∙◌}
use Rattle.groups.proofs.Grouped.{cuts-hanging, cuts-grouped}
use Rattle.groups.proofs.grouping.group.Goals as goal

pub find_tops-requires : goal.find_tops-requires
find_tops-requires c =
    cuts-hanging c.requires.divisible c.cut.ensures (c.cut.auto.link ∙ c.fill.auto.self ∙ c.requires.carried_len.1)

pub returns : goal.returns
returns c =
    cuts-grouped c.requires.divisible c.cut.ensures (c.cut.auto.link ∙ c.fill.auto.self ∙ c.requires.carried_len.1) c.find_tops.ensures c.find_tops.auto.link
