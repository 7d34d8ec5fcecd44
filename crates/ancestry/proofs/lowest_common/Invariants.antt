use Prim.Native.Nat.{◌+◌, ◌-◌}
use Rattle.game.specs.Game.{absent}
use Rattle.ancestry.specs.Steps.{Walkable}
use Rattle.ancestry.proofs.Walk.{Walks}
use Rattle.ancestry.proofs.lowest_common.Given as goal

abbrev pub invariant-loop-a : goal.invariant-loop-a
invariant-loop-a l = Walkable l.parents × Walks l.parents l.one l.other l.a l.b

abbrev pub decreases-loop-a : goal.decreases-loop-a
decreases-loop-a l = (absent - l.a) + (absent - l.b)
