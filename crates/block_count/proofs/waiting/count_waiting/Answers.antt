use native.Mathlib.Omega.{arith}
use Rattle.block_count.proofs.Sweep.{wait-start, wait-step, wait-fits, wait-end}
use Rattle.block_count.proofs.waiting.count_waiting.Goals as goal

pub loop-number-init : goal.loop-number-init
loop-number-init c = wait-start

pub overflow_add-count : goal.overflow_add-count
overflow_add-count c =
    omega (arith, c.requires, wait-fits (wait-step c.loop-number.invariant c.loop-number-test.true c.waits-count.ensures))

pub loop-number-preserved : goal.loop-number-preserved
loop-number-preserved c = wait-step c.loop-number.invariant c.loop-number-test.true c.waits-count.ensures

pub returns : goal.returns
returns c = wait-end c.loop-number.invariant c.loop-number-test.false
