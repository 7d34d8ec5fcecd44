use Rattle.query.proofs.Rising.{Scanning}
use Rattle.query.proofs.starts_rise.Given as goal

abbrev pub invariant-loop-i : goal.invariant-loop-i
invariant-loop-i l = Scanning l.end l.starts l.i l.falls
