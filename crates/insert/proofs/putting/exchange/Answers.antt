use native.Mathlib.Omega.{arith}
use Rattle.insert.proofs.Lowered.{lowers-none}
use Rattle.insert.proofs.Puts.{exchanged-lower, exchanged-root, exchanged-on, exchanged-swap}
use Rattle.insert.proofs.putting.exchange.Goals as goal

pub returns-then-parent : goal.returns-then-parent
returns-then-parent c =
    let (t, up, inside) = c.requires in
    (exchanged-root t up inside c.if-parent.true, exchanged-lower t up inside c.min.ensures (omega (arith, c.if-parent.true, t.few)))

pub returns-then-parent-high : goal.returns-then-parent-high
returns-then-parent-high c =
    let (t, up, inside) = c.requires in
    (exchanged-on t up inside c.if-parent.false c.if-parent-high.true, lowers-none _ _)

pub returns : goal.returns
returns c =
    let (t, up, inside) = c.requires in
    (exchanged-swap t up inside c.if-parent.false c.if-parent-high.false, exchanged-lower t up inside c.min-2.ensures (omega (arith, c.if-parent-high.false)))
