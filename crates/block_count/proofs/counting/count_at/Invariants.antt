use mathlib.Core.Path.{◌≡◌}
use Prim.Native.Nat.{◌+◌}
use Rattle.block_count.proofs.Stamps.{AtTurn}
use Rattle.block_count.proofs.counting.count_at.Given as goal

abbrev pub invariant-loop-i : goal.invariant-loop-i
invariant-loop-i l = (l.stamp ≡ l.y + 1) × AtTurn l.all l.block l.y l.up l.lower l.stamps l.count l.i
