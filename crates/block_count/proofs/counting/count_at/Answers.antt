use native.Mathlib.Omega.{arith}
use mathlib.Core.Path.{refl, ◌∙◌}
use Rattle.block_count.proofs.Stamps.{at-start, at-few, at-step, at_all, at-end}
use Rattle.block_count.proofs.counting.count_at.Goals as goal

pub meet_own-count-requires : goal.meet_own-count-requires
meet_own-count-requires c = (omega (arith, c.requires.blocks c.args.y c.requires.inside, c.requires.all), c.requires.fresh)

pub loop-i-init : goal.loop-i-init
loop-i-init c = (refl, at-start (c.meet_own-count.auto.stamps ∙ c.requires.all) c.meet_own-count.ensures)

pub returns-then-count-all : goal.returns-then-count-all
returns-then-count-all c = at_all c.loop-i.invariant.1 c.if-count-all.true

pub bounds-block-low : goal.bounds-block-low
bounds-block-low c = c.requires.neighbours c.loop-i.i c.loop-i-test.true

pub overflow_add-count : goal.overflow_add-count
overflow_add-count c = omega (
  arith,
  c.requires.small,
  at-few (at-step c.loop-i.invariant.1 c.loop-i-test.true c.if-count-all.false
      (c.requires.blocks _ (c.requires.neighbours c.loop-i.i c.loop-i-test.true)) c.meet-count.ensures.0 c.meet-count.ensures.1),
)

pub loop-i-preserved : goal.loop-i-preserved
loop-i-preserved c = (
  refl,
  at-step c.loop-i.invariant.1 c.loop-i-test.true c.if-count-all.false
      (c.requires.blocks _ (c.requires.neighbours c.loop-i.i c.loop-i-test.true)) c.meet-count.ensures.0 c.meet-count.ensures.1,
)

pub returns : goal.returns
returns c = at-end c.loop-i.invariant.1 c.loop-i-test.false
