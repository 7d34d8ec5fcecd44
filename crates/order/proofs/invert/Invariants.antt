use Rattle.order.proofs.Fill.{Inverted}
use Rattle.order.proofs.invert.Given as goal

abbrev pub invariant-loop-rank : goal.invariant-loop-rank
invariant-loop-rank l = Inverted l.order l.inverse l.rank
