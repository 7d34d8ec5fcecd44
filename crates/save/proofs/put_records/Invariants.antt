use mathlib.Core.Path.{◌≡◌}
use mathlib.Core.List.{◌++◌}
use Prim.Native.Nat.{◌*◌}
use lib.ListN.{length, take, drop}
use Rattle.game.specs.Net.{net as lent}
use Rattle.records.specs.LinkFile.{link_file}
use Rattle.save.proofs.put_records.Given as goal

abbrev pub invariant-loop-rank : goal.invariant-loop-rank
invariant-loop-rank l =
    (length l.bytes ≡ 8 * length l.parents)
    × (take (8 * l.rank) l.bytes ++ link_file (lent (drop l.rank l.parents) (drop l.rank l.weights)) ≡ link_file (lent l.parents l.weights))
