use native.Mathlib.Omega.{arith}
use Rattle.game.proofs.Tables.{sum_drop, sum-end}
use Rattle.net.proofs.total.Goals as goal

pub loop-weight-preserved : goal.loop-weight-preserved
loop-weight-preserved c =
    omega (arith, c.type_inv.weights c.loop-weight.weight-index, c.from-sum.ensures, sum_drop c.args.weights.now c.loop-weight.weight-index c.loop-weight-test.true)

pub returns : goal.returns
returns c = omega (arith, sum-end c.args.weights.now c.loop-weight.weight-index c.loop-weight-test.false)
