use Rattle.groups.proofs.Climbing.{Climbing}
use Rattle.groups.proofs.grouping.find_tops.Given as goal

abbrev pub invariant-loop-x : goal.invariant-loop-x
invariant-loop-x l = Climbing l.initial.link l.link l.x
