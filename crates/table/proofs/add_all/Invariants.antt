use Rattle.table.proofs.Summed.{Summed}
use Rattle.table.proofs.add_all.Given as goal

abbrev pub invariant-loop-i : goal.invariant-loop-i
invariant-loop-i l = Summed l.initial.table l.other l.table l.i
