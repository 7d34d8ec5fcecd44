use Rattle.block_count.proofs.Buckets.{CountTurn}
use Rattle.block_count.proofs.counting.count_buckets.Given as goal

abbrev pub invariant-loop-y : goal.invariant-loop-y
invariant-loop-y l = CountTurn l.all l.ends l.lower l.initial.edges_taken l.block l.block_count l.edges_taken l.pending l.stamps l.at l.y
