use Rattle.pack.proofs.Blocks.{Spread}
use Rattle.pack.proofs.spread.Given as goal

abbrev pub invariant-loop-x : goal.invariant-loop-x
invariant-loop-x l = Spread l.top l.initial.block l.block l.x
