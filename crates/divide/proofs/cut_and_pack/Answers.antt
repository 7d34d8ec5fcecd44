use mathlib.Core.Path.{◌∙◌}
use Rattle.divide.proofs.Divided.{tops-topped, tops-packable, all-divided}
use Rattle.divide.proofs.cut_and_pack.Goals as goal

pub assign-requires : goal.assign-requires
assign-requires c =
    record {
      topped = tops-topped c.requires.divisible c.group.ensures;
      packable = tops-packable c.requires.divisible c.group.ensures (c.group.auto.next ∙ c.requires.fitting.block) c.requires.fitting.some c.requires.fitting.few;
    }

pub returns-clause-outcome : goal.returns-clause-outcome
returns-clause-outcome c =
    all-divided c.requires.divisible c.group.ensures c.assign.ensures c.assign.auto.loads
