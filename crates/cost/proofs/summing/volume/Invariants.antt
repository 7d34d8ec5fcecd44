use mathlib.Core.Path.{◌≡◌}
use Prim.Native.Nat.{◌*◌, ◌≤◌}
use Rattle.game.specs.Table.{tabulate, sum as total}
use Rattle.cost.specs.SummingSteps.{volume_term}
use Rattle.cost.proofs.summing.volume.Given as goal

abbrev pub invariant-loop-count : goal.invariant-loop-count
invariant-loop-count l =
    (l.sum ≡ total (tabulate l.count-index (volume_term l.block_count))) × (l.sum ≤ 4294967295 * l.count-index)
