use mathlib.Core.Path.{◌≡◌}
use lib.ListN.{length}
use Rattle.read.proofs.Records.{Taken}
use Rattle.read.proofs.take_records.Given as goal

abbrev pub invariant-loop-rank : goal.invariant-loop-rank
invariant-loop-rank l = (length l.weights ≡ length l.parents) × Taken l.bytes l.parents l.weights l.rank
