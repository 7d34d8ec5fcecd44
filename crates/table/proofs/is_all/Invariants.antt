use Rattle.table.proofs.Filling.{Looking}
use Rattle.table.proofs.is_all.Given as goal

abbrev pub invariant-loop-y : goal.invariant-loop-y
invariant-loop-y l = Looking l.x l.table l.all l.y-index
