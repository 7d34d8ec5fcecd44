use mathlib.Core.Path.{◌≡◌}
use Prim.Native.Nat.{◌-◌}
use lib.ListN.{length}
use Rattle.ancestry.proofs.Written.{Writing}
use Rattle.game.specs.Game.{absent}
use Rattle.ancestry.specs.Steps.{Walkable}
use Rattle.ancestry.proofs.write_path.Given as goal

abbrev pub invariant-loop-x : goal.invariant-loop-x
invariant-loop-x l = Walkable l.parents × (length l.initial.table ≡ length l.parents) × Writing l.parents l.from l.initial.table l.table l.x l.count

abbrev pub decreases-loop-x : goal.decreases-loop-x
decreases-loop-x l = absent - l.x
