use Rattle.pack.proofs.Winners.{Replaying}
use Rattle.pack.proofs.tournament.replay.Given as goal

abbrev pub invariant-loop-i : goal.invariant-loop-i
invariant-loop-i l = Replaying l.loads l.nodes l.i l.least

abbrev pub decreases-loop-i : goal.decreases-loop-i
decreases-loop-i l = l.i
