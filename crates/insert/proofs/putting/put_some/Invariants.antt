use mathlib.Core.Path.{◌≡◌}
use Prim.Native.Nat.{◌+◌, ◌≤◌}
use lib.ListN.{length, drop}
use Rattle.game.specs.Edge.{ties as ties_of}
use Rattle.edge.specs.Tie.{ties_left}
use Rattle.moved.specs.Steps.{Fallen}
use Rattle.insert.specs.Putting.{PutUpTo}
use Rattle.insert.proofs.putting.put_some.Given as goal

abbrev pub invariant-loop-i : goal.invariant-loop-i
invariant-loop-i l =
    (ties_left l.i-iterator.iter ≡ drop l.i-iterator.count (ties_of l.edges)) × PutUpTo l.initial.parents l.edges l.parents l.i-iterator.count
    × (l.steps ≤ l.budget + length l.initial.parents) × Fallen l.initial.parents l.parents l.moved
