use Rattle.insert.proofs.First.{list-weighs}
use Rattle.insert.proofs.extending.extend.Goals as goal

pub charge-requires : goal.charge-requires
charge-requires c =
    list-weighs c.requires.0 c.requires.1
