use Rattle.edge.specs.Tie.{ties_left}
use Rattle.relabel.proofs.Filled.{Filled}
use Rattle.relabel.proofs.look_up.Given as goal

abbrev pub invariant-loop-i : goal.invariant-loop-i
invariant-loop-i l = Filled l.ranks l.edges l.out l.i-iterator.count (ties_left l.i-iterator.iter)
