use native.Mathlib.Omega.{arith}
use native.Mathlib.Nat.{le_refl}
use Rattle.table.proofs.Summed.{sum-start, sum_step, sum-all}
use Rattle.table.proofs.add_all.Goals as goal

pub loop-i-init : goal.loop-i-init
loop-i-init c = sum-start _ _ c.requires.0

pub bounds-table-i : goal.bounds-table-i
bounds-table-i c = omega (arith, c.loop-i.invariant.long)

pub overflow_add-table : goal.overflow_add-table
overflow_add-table c =
    omega (arith, c.loop-i.invariant.left c.loop-i.i (le_refl _), c.requires.1 c.loop-i.i)

pub bounds-table-i-in-loop-i : goal.bounds-table-i-in-loop-i
bounds-table-i-in-loop-i c = omega (arith, c.loop-i.invariant.long)

pub loop-i-preserved : goal.loop-i-preserved
loop-i-preserved c = sum_step c.loop-i.invariant c.loop-i-test.true

pub returns : goal.returns
returns c = sum-all c.loop-i.invariant c.loop-i-test.false
