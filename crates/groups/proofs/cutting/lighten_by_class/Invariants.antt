use Prim.Native.Nat.{◌-◌}
use lib.ListN.{length}
use Rattle.groups.proofs.Lightening.{Lighter}
use Rattle.groups.proofs.cutting.lighten_by_class.Given as goal

abbrev pub invariant-loop-class : goal.invariant-loop-class
invariant-loop-class l = Lighter l.x l.weight l.limit (length l.heads - 1) l.carried l.initial.link l.link l.class l.left

abbrev pub decreases-loop-class : goal.decreases-loop-class
decreases-loop-class l = l.class
