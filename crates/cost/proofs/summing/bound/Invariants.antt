use mathlib.Core.Path.{◌≡◌}
use Prim.Native.Nat.{◌*◌, ◌≤◌}
use Rattle.game.specs.Table.{tabulate, sum as total}
use Rattle.cost.specs.SummingSteps.{bound_term}
use Rattle.cost.proofs.summing.bound.Given as goal

abbrev pub invariant-loop-x : goal.invariant-loop-x
invariant-loop-x l =
    (l.sum ≡ total (tabulate l.x (bound_term l.parents l.top l.reach))) × (l.sum ≤ 4294967295 * l.x)
