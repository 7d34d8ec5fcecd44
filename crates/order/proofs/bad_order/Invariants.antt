use Rattle.std.specs.Iterator.Adapters.{rev_source}
use Rattle.std.specs.Slice.Iter.{iter_rest}
use Rattle.order.proofs.Scan.{Read}
use Rattle.order.proofs.bad_order.Given as goal

abbrev pub invariant-loop-vertex : goal.invariant-loop-vertex
invariant-loop-vertex l = Read l.order l.later (iter_rest (rev_source l.vertex-iterator))
