use mathlib.Core.List.{[]}
use mathlib.Core.Path.{◌∙◌}
use Rattle.reach_slots.proofs.Summing.{summed-first, summed-subtrees, keep-fits, keep-root, keep-child}
use native.Mathlib.Nat.{le_antisymm}
use Rattle.reach_slots.proofs.layout.sum_subtrees.Goals.{then-parent, else-parent}
use Rattle.reach_slots.proofs.layout.sum_subtrees.Goals as goal

pub loop-x-init : goal.loop-x-init
loop-x-init c = summed-first [] c.requires.entries

pub add_at-requires : goal.add_at-requires
add_at-requires c =
    let both = keep-fits c.requires c.loop-x-test.true c.loop-x.invariant c.if-parent.true in
    record { i_in_bounds = both.0; v_bound = both.1 }

pub loop-x-preserved : goal.loop-x-preserved
loop-x-preserved c =
    elim c.if-parent.branch [
      | then-parent w ↦ keep-child c.requires c.loop-x-test.true c.loop-x.invariant w.if-parent.true (w.sums-is ∙ w.add_at.ensures)
      | else-parent w ↦ rw w.sums-is (keep-root c.requires c.loop-x-test.true c.loop-x.invariant w.if-parent.false)
    ]

pub returns : goal.returns
returns c = summed-subtrees c.requires (le_antisymm c.loop-x.auto.x-end c.loop-x-test.false) c.loop-x.invariant
