use Prim.Native.Nat.{◌-◌}
use lib.ListN.{length}
use Rattle.game.specs.Edge.{◌─◌}
use Rattle.insert.specs.Putting.{Lowers}
use Rattle.insert.proofs.Puts.{Trading}
use Rattle.insert.proofs.putting.put_up.Given as goal

abbrev pub invariant-loop-low : goal.invariant-loop-low
invariant-loop-low l = Trading l.initial.parents (l.from ─ l.to) l.parents l.low l.high l.steps × Lowers l.initial.parents l.moved l.parents l.lowest

abbrev pub decreases-loop-low : goal.decreases-loop-low
decreases-loop-low l = length l.initial.parents - l.low
