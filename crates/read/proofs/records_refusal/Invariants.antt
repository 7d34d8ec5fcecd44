use Prim.Native.Nat.{◌*◌, ◌≤◌}
use Rattle.read.proofs.Check.{Checked}
use Rattle.read.proofs.records_refusal.Given as goal

abbrev pub invariant-loop-rank : goal.invariant-loop-rank
invariant-loop-rank l = (l.total ≤ 4294967295 * l.rank) × Checked l.bytes l.n l.rank l.total
