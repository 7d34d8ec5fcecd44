use Rattle.std.proofs.Common.{rules}
use Rattle.moved.specs.Moved.{moved_rank}
use Rattle.moved.proofs.moved_rank.Goals as goal

pub returns : goal.returns
unfolding moved_rank
returns c = search rules
