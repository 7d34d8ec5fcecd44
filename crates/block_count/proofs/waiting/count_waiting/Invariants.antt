use Rattle.block_count.proofs.Sweep.{WaitTurn}
use Rattle.block_count.proofs.waiting.count_waiting.Given as goal

abbrev pub invariant-loop-number : goal.invariant-loop-number
invariant-loop-number l = WaitTurn l.pending l.count l.number-index
