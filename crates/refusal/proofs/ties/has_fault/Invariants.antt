use mathlib.Core.Bool.{◌||◌}
use mathlib.Core.Path.{◌≡◌}
use Rattle.game.specs.Edge.{ties as ties_of}
use Rattle.edge.specs.Tie.{ties_left}
use Rattle.refusal.specs.Steps.{some_fault}
use Rattle.refusal.proofs.ties.has_fault.Given as goal

abbrev pub invariant-loop-tie : goal.invariant-loop-tie
invariant-loop-tie l = (l.found || some_fault l.n (ties_left l.tie-iterator)) ≡ some_fault l.n (ties_of l.edges)
