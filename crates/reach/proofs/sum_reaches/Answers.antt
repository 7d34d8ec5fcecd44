use mathlib.Core.Path.{◌∙◌}
use native.Mathlib.Nat.{le_antisymm}
use Rattle.reach_slots.proofs.Summing.{summed-first, turn-less, turn-fits, turn-root, turn-child, turn_last}
use Rattle.reach.proofs.sum_reaches.Goals.{then-parent, else-parent}
use Rattle.reach.proofs.sum_reaches.Goals as goal

pub loop-x-init : goal.loop-x-init
loop-x-init c = summed-first _ c.requires.summable.entries

pub overflow_sub-sum : goal.overflow_sub-sum
overflow_sub-sum c =
    let (f, b) = c.requires.by_index in
    (turn-less b c.loop-x-test.true c.loop-x.invariant).0

pub add_at-requires : goal.add_at-requires
add_at-requires c =
    let (f, b) = c.requires.by_index in
    let h = c.loop-x-test.true in
    let d = c.loop-x.invariant in
    let both = turn-fits _ c.requires.summable h d (turn-less b h d).1 c.if-parent.true in
    record { i_in_bounds = both.0; v_bound = both.1 }

pub loop-x-preserved : goal.loop-x-preserved
loop-x-preserved c =
    let (f, b) = c.requires.by_index in
    let h = c.loop-x-test.true in
    let d = c.loop-x.invariant in
    elim c.if-parent.branch [
      | then-parent w ↦ turn-child _ c.requires.summable h d (turn-less b h d).1 w.if-parent.true (w.reach-is ∙ w.add_at.ensures)
      | else-parent w ↦ rw w.reach-is (turn-root _ c.requires.summable h d (turn-less b h d).1 w.if-parent.false)
    ]

pub returns : goal.returns
returns c = λ f b. turn_last (le_antisymm c.loop-x.auto.x-end c.loop-x-test.false) c.loop-x.invariant b
