use Rattle.game.specs.Edge.{without_rows, edges as edges_of}
use Rattle.edge.specs.Tie.{ties_left}
use Rattle.block_count.proofs.Sweep.{SweepTurn}
use Rattle.block_count.proofs.waiting.settle.Given as goal

abbrev pub invariant-loop-tie : goal.invariant-loop-tie
invariant-loop-tie l =
    SweepTurn (edges_of l.edges) (without_rows (ties_left l.tie-iterator)) l.block l.initial.pending l.initial.edges_taken l.pending l.edges_taken l.waiting
