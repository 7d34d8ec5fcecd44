use native.Mathlib.Omega.{arith}
use mathlib.Core.Path.{sym, ap, ◌∙◌}
use Prim.Native.Nat.{ℕ}
use Rattle.game.specs.Table.{tabulate, sum as total}
use Rattle.cost.specs.SummingSteps.{bound_term, bound_by}
use Rattle.cost.proofs.Sums.{sum-none, bound-term, bound-term-le, sum_step}
use Rattle.cost.proofs.summing.bound.Goals as goal

pub loop-x-init : goal.loop-x-init
loop-x-init c = (sym (sum-none _), omega arith)

pub overflow_add-sum : goal.overflow_add-sum
overflow_add-sum c =
    omega (
      arith,
      c.cut_reach-sum.ensures ∙ bound-term c.args.parents.now c.args.top.now c.args.reach.now c.loop-x.x c.loop-x-test.true,
      bound-term-le c.args.parents.now c.args.top.now c.args.reach.now c.loop-x.x,
      c.type_inv.reach c.loop-x.x,
    )

pub loop-x-preserved : goal.loop-x-preserved
loop-x-preserved c = (
  sum_step _ c.loop-x.x c.loop-x.invariant.0 (c.cut_reach-sum.ensures ∙ bound-term c.args.parents.now c.args.top.now c.args.reach.now c.loop-x.x c.loop-x-test.true),
  omega (
    arith,
    c.cut_reach-sum.ensures ∙ bound-term c.args.parents.now c.args.top.now c.args.reach.now c.loop-x.x c.loop-x-test.true,
    bound-term-le c.args.parents.now c.args.top.now c.args.reach.now c.loop-x.x,
    c.type_inv.reach c.loop-x.x,
  ),
)

pub returns : goal.returns
unfolding bound_by
returns c =
    c.loop-x.invariant.0 ∙ ap (λ (n : ℕ). total (tabulate n (bound_term c.args.parents.now c.args.top.now c.args.reach.now))) (omega arith)
