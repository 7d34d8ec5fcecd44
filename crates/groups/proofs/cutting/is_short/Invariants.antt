use Prim.Native.Nat.{◌-◌}
use Rattle.cut.specs.Steps.{Listed}
use Rattle.groups.proofs.cutting.is_short.Given as goal

abbrev pub invariant-loop-child : goal.invariant-loop-child
invariant-loop-child l = Listed l.child l.next

abbrev pub decreases-loop-child : goal.decreases-loop-child
decreases-loop-child l = 32 - l.count
