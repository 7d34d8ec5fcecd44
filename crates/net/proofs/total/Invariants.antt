use mathlib.Core.Path.{◌≡◌}
use Prim.Native.Nat.{◌+◌, ◌*◌, ◌≤◌}
use lib.ListN.{drop}
use Rattle.game.specs.Table.{sum as total}
use Rattle.net.proofs.total.Given as goal

abbrev pub invariant-loop-weight : goal.invariant-loop-weight
invariant-loop-weight l = (l.sum + total (drop l.weight-index l.weights) ≡ total l.weights) × (l.sum ≤ 4294967295 * l.weight-index)
