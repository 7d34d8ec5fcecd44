use Rattle.game.specs.Edge.{edges as edges_of}
use Rattle.edge.specs.Tie.{ties_left}
use Rattle.cost.proofs.Filling.{FillTurn}
use Rattle.cost.proofs.write_edge_blocks.Given as goal

abbrev pub invariant-loop-i : goal.invariant-loop-i
invariant-loop-i l =
    (goal.iterator-loop-i.can_next l.i-iterator × goal.iterator-loop-i.is_finite l.i-iterator)
    × FillTurn (edges_of l.edges) (ties_left l.i-iterator.iter) l.block l.edge_blocks l.i-iterator.count
