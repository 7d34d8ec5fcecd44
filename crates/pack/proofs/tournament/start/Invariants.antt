use lib.ListN.{replicate}
use Rattle.pack.proofs.Winners.{Playing}
use Rattle.pack.proofs.tournament.start.Given as goal

abbrev pub invariant-loop-i : goal.invariant-loop-i
invariant-loop-i l = Playing (replicate l.blocks 0) l.nodes l.i l.i
