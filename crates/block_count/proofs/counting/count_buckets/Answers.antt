use mathlib.Core.Path.{refl}
use Rattle.block_count.proofs.Buckets.{turn-start, turn-order, turn-short, turn_up, turn-meets, turn-read, turn_step, turn_end}
use Rattle.block_count.proofs.counting.count_buckets.Goals as goal

pub loop-y-init : goal.loop-y-init
loop-y-init c = turn-start c.requires

pub slice_bounds-count_at-count : goal.slice_bounds-count_at-count
slice_bounds-count_at-count c =
    turn-order c.requires c.loop-y.invariant c.loop-y-test.true refl

pub count_at-met-requires : goal.count_at-met-requires
count_at-met-requires c =
    turn-meets c.requires c.loop-y.invariant c.loop-y-test.true refl

pub overflow_sub-end : goal.overflow_sub-end
overflow_sub-end c =
    turn-order c.requires c.loop-y.invariant c.loop-y-test.true refl

pub known_at-known-requires : goal.known_at-known-requires
known_at-known-requires c = (
  turn_up c.requires c.loop-y.invariant c.loop-y-test.true refl,
  turn-short c.requires c.loop-y.invariant c.loop-y-test.true refl,
  turn-read c.requires
      c.loop-y.invariant c.loop-y-test.true refl c.count_at-met.ensures,
)

pub loop-y-preserved : goal.loop-y-preserved
loop-y-preserved c =
    turn_step c.requires c.loop-y.invariant c.loop-y-test.true refl c.count_at-met.ensures c.count_at-met.auto.stamps c.known_at-known.ensures

pub returns : goal.returns
returns c = turn_end c.loop-y.invariant c.loop-y-test.false
