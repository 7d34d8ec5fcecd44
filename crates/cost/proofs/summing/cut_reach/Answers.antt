use Rattle.cost.proofs.Sums.{cut-other, cut-root, cut-here}
use Rattle.cost.proofs.summing.cut_reach.Goals as goal

pub returns-then-top-x : goal.returns-then-top-x
returns-then-top-x c = cut-other c.args.x c.args.parent c.args.top c.args.reach c.if-top-x.true

pub returns-then-parent-eq-ABSENT : goal.returns-then-parent-eq-ABSENT
returns-then-parent-eq-ABSENT c =
    cut-root c.args.x c.args.parent c.args.top c.args.reach c.if-top-x.false c.if-parent-eq-ABSENT.true

pub returns : goal.returns
returns c =
    cut-here c.args.x c.args.parent c.args.top c.args.reach c.if-top-x.false c.if-parent-eq-ABSENT.false c.from.ensures
