use Rattle.files.proofs.Taking.{Taken}
use Rattle.files.proofs.take_words.Given as goal

abbrev pub invariant-loop-i : goal.invariant-loop-i
invariant-loop-i l = Taken l.bytes l.table l.i
