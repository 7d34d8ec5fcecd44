use native.Mathlib.Omega.{arith}
use mathlib.Core.Path.{sym, ap, ◌∙◌}
use Prim.Native.Nat.{ℕ}
use Rattle.game.specs.Table.{tabulate, sum as total}
use Rattle.cost.specs.SummingSteps.{volume_term, volume_by}
use Rattle.cost.proofs.Sums.{sum_step, sum-none}
use Rattle.cost.proofs.summing.volume.Goals as goal

pub loop-count-init : goal.loop-count-init
loop-count-init c = (sym (sum-none _), omega arith)

pub overflow_add-sum : goal.overflow_add-sum
overflow_add-sum c = omega (arith, c.type_inv.block_count c.loop-count.count-index, c.shared-sum.ensures)

pub loop-count-preserved : goal.loop-count-preserved
unfolding volume_term
loop-count-preserved c = (
  sum_step _ c.loop-count.count-index c.loop-count.invariant.0 c.shared-sum.ensures,
  omega (arith, c.type_inv.block_count c.loop-count.count-index, c.shared-sum.ensures),
)

pub returns : goal.returns
unfolding volume_by
returns c = c.loop-count.invariant.0 ∙ ap (λ (n : ℕ). total (tabulate n (volume_term c.args.block_count.now))) (omega arith)
