use native.Mathlib.Omega.{arith}
use Rattle.block_count.proofs.Passing.{waiting-le, pass-not, pass_fits, pass_on}
use Rattle.block_count.proofs.waiting.pass.Goals as goal

pub returns-then-before-eq0 : goal.returns-then-before-eq0
returns-then-before-eq0 c = pass-not _ _ _ _ _ c.if-before-eq0.true

pub overflow_add-edges_taken : goal.overflow_add-edges_taken
overflow_add-edges_taken c =
    record { fits = pass_fits _ c.args.pending.now c.args.edges_taken.now c.if-before-eq0.false c.requires.small }

pub overflow_sub-result : goal.overflow_sub-result
overflow_sub-result c = omega (arith, c.waits.ensures, waiting-le c.next-after.result)

pub returns : goal.returns
returns c =
    pass_on _ _ _ _ _ c.if-before-eq0.false c.next-after.ensures c.waits.ensures
