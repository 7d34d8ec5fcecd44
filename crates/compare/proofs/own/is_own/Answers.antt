use Rattle.compare.proofs.Told.{told}
use Rattle.compare.proofs.own.is_own.Goals as goal

pub returns : goal.returns
returns c =
    told c.requires c.start.ensures c.add.ensures c.same_net.ensures
