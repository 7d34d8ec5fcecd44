use mathlib.Core.Path.{◌≡◌}
use Prim.Native.Nat.{◌+◌}
use Rattle.game.specs.Edge.{ties as ties_of}
use Rattle.game.specs.Net.{charges}
use Rattle.edge.specs.Tie.{ties_left}
use Rattle.edge.proofs.charges.Given as goal

abbrev pub invariant-loop-tie : goal.invariant-loop-tie
invariant-loop-tie l = l.sum + charges (ties_left l.tie-iterator) ≡ charges (ties_of l.list)
