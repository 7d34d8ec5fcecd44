use native.Mathlib.Omega.{arith}
use Rattle.files.proofs.Taking.{taken-turn, taken-all}
use Rattle.files.proofs.take_words.Goals as goal

pub loop-i-preserved : goal.loop-i-preserved
loop-i-preserved c = taken-turn c.loop-i.invariant (omega arith) c.word_at.ensures

pub returns : goal.returns
returns c = taken-all c.loop-i.invariant (omega arith)
