use Rattle.game.specs.Edge.{ties as ties_of}
use Rattle.edge.specs.Tie.{ties_left}
use Rattle.rising.specs.Rising.{Rises}
use Rattle.rising.proofs.is_rising.Given as goal

-- if what is left rises from the highest upper end so far, the whole rises
abbrev pub invariant-loop-tie : goal.invariant-loop-tie
invariant-loop-tie l = Rises l.n l.last (ties_left l.tie-iterator) → Rises l.n 0 (ties_of l.edges)
