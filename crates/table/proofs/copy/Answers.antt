use mathlib.Core.Path.{refl, sym}
use native.Mathlib.Omega.{arith}
use Rattle.table.proofs.Copying.{copied-first, copied-step, copied-last}
use Rattle.table.proofs.copy.Goals as goal

pub loop-i-init : goal.loop-i-init
loop-i-init c = copied-first (sym c.requires)

pub loop-i-preserved : goal.loop-i-preserved
loop-i-preserved c = copied-step c.loop-i.invariant (omega (arith, c.loop-i-test.true, c.loop-i.invariant.same)) refl

pub returns : goal.returns
returns c = copied-last c.loop-i.invariant (omega (arith, c.loop-i-test.false, c.loop-i.invariant.same))
