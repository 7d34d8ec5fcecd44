use Rattle.rising.proofs.Rising.{rises-nothing, rises-tie}
use Rattle.rising.proofs.is_rising.Goals as goal

pub loop-tie-preserved : goal.loop-tie-preserved
loop-tie-preserved c = λ r.
    c.loop-tie.invariant (rises-tie c.in-Some.ensures.steps c.upper-end.ensures (rw c.bad_rows.ensures at c.if-n-end.false) r)

pub returns : goal.returns
returns c = λ t. c.loop-tie.invariant (rises-nothing c.in-None.ensures.steps.0)
