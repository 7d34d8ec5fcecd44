use Rattle.groups.proofs.Ranks.{Cutting}
use Rattle.groups.proofs.cutting.cut.Given as goal

abbrev pub invariant-loop-x : goal.invariant-loop-x
invariant-loop-x l =
    Cutting l.parents l.weights l.limit l.next l.x l.carried l.link
