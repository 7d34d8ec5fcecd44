use native.Mathlib.Omega.{arith}
use mathlib.Core.Path.{◌≡◌, refl, ap, ◌∙◌}
use lib.ListN.{length, length-set}
use native.Mathlib.Nat.{le_refl}
use Rattle.reach_slots.proofs.Placing.{stage-first, stage-last, tables-next, root-fits, stage-root, child-inside, child_fits, stage-child}
use Rattle.reach_slots.proofs.layout.place_subtrees.Goals as goal

pub loop-x-init : goal.loop-x-init
loop-x-init c =
    let (e, f) = c.requires.ends_len in
    (record { below = le_refl _; ends_entries = e; stops_entries = f; sizes = λ x h. refl }, λ w st. stage-first f st)

pub overflow_sub-top : goal.overflow_sub-top
overflow_sub-top c =
    let (w, st) = c.requires.by_index in
    let (t, stage) = c.loop-x.invariant in
    root-fits c.loop-x-test.true t (stage w st) c.if-parent.true

pub loop-x-preserved-then-parent : goal.loop-x-preserved-then-parent
loop-x-preserved-then-parent c =
    let (t, stage) = c.loop-x.invariant in
    let h = c.loop-x-test.true in
    (tables-next h t (simp length-set) _, λ w st. stage-root h t (stage w st) c.if-parent.true)

pub read_at-end-requires : goal.read_at-end-requires
read_at-end-requires c =
    let (w, st) = c.requires.by_index in
    let (t, stage) = c.loop-x.invariant in
    child-inside c.loop-x-test.true t (stage w st) c.if-parent.false

pub overflow_sub-end : goal.overflow_sub-end
overflow_sub-end c =
    let (w, st) = c.requires.by_index in
    let (t, stage) = c.loop-x.invariant in
    child_fits c.loop-x-test.true t (stage w st) c.if-parent.false c.read_at-end.ensures

pub write_at-requires : goal.write_at-requires
write_at-requires c =
    let (w, st) = c.requires.by_index in
    let (t, stage) = c.loop-x.invariant in
    simp length-set (child-inside c.loop-x-test.true t (stage w st) c.if-parent.false)

pub loop-x-preserved : goal.loop-x-preserved
loop-x-preserved c =
    let (t, stage) = c.loop-x.invariant in
    let h = c.loop-x-test.true in (
      tables-next h t (ap length c.write_at.ensures ∙ simp length-set) _,
      λ w st. stage-child h t (stage w st) c.if-parent.false c.read_at-end.ensures c.write_at.ensures,
    )

pub returns : goal.returns
returns c = λ w st.
    let (t, stage) = c.loop-x.invariant in
    let e : c.loop-x.x ≡ 0 = omega arith in
    stage-last (rw e at t) (rw e at (stage w st))
