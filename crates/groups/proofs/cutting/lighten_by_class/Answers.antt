use native.Mathlib.Omega.{arith}
use mathlib.Core.Logic.{inl, inr}
use Prim.Native.Nat.{◌-◌}
use Rattle.groups.proofs.Halving.{class-room}
use Rattle.groups.proofs.Lightening.{lighter-begin, lighter-small, lighter-skip, lighter-loaded, lighter-candidates, lighter-floor, lighter-trimmed, lightened}
use Rattle.groups.proofs.cutting.lighten_by_class.Goals.{then-loop-class-test+else-limit-weight, else-loop-class-test}
use Rattle.groups.proofs.cutting.lighten_by_class.Goals as goal

pub overflow_add-class : goal.overflow_add-class
overflow_add-class c =
    omega (arith, class-room _ _ c.class_of-class.ensures, c.file_children.auto.heads, c.requires.unfiled.few)

pub loop-class-init : goal.loop-class-init
loop-class-init c = rw c.class_of-class.ensures (lighter-begin c.requires.loaded)

pub overflow_add-weight : goal.overflow_add-weight
overflow_add-weight c =
    omega (arith, lighter-small c.requires.loaded c.requires.children c.file_children.ensures c.loop-class.invariant)

pub floor_of-requires : goal.floor_of-requires
floor_of-requires c = (
  omega (arith, c.loop-class.invariant.within, c.loop-class-test.true, c.file_children.auto.heads, c.requires.unfiled.few),
  lighter-floor c.requires.loaded
      c.requires.children c.file_children.ensures c.loop-class.invariant (c.loop-class.class - 1) (omega (arith, c.loop-class-test.true))
      (omega (arith, c.file_children.auto.heads, c.requires.unfiled.some)) c.if-heads-class.true,
)

pub trim-left-requires : goal.trim-left-requires
trim-left-requires c =
    record {
      loaded = lighter-loaded c.requires.loaded c.requires.children c.file_children.ensures c.loop-class.invariant c.file_children.auto.next;
      candidates = lighter-candidates
          c.requires.loaded c.requires.children c.file_children.ensures c.loop-class.invariant (c.loop-class.class - 1) (omega (arith, c.loop-class-test.true))
          (omega (arith, c.file_children.auto.heads, c.requires.unfiled.some)) c.floor_of.ensures c.if-limit-weight.true;
    }

pub loop-class-preserved-then-heads-class : goal.loop-class-preserved-then-heads-class
loop-class-preserved-then-heads-class c =
    lighter-trimmed c.requires.loaded c.requires.children c.file_children.ensures c.loop-class.invariant (c.loop-class.class - 1) (omega (arith, c.loop-class-test.true))
    (omega (arith, c.file_children.auto.heads, c.requires.unfiled.some)) c.floor_of.ensures c.trim-left.ensures
    c.trim-left.auto.link

pub loop-class-preserved : goal.loop-class-preserved
loop-class-preserved c =
    lighter-skip c.requires.loaded c.requires.children c.file_children.ensures c.loop-class.invariant (c.loop-class.class - 1) (omega (arith, c.loop-class-test.true))
    (omega (arith, c.file_children.auto.heads, c.requires.unfiled.some)) c.if-limit-weight.true c.if-heads-class.false

pub overflow_add-result : goal.overflow_add-result
overflow_add-result c =
    omega (arith, lighter-small c.requires.loaded c.requires.children c.file_children.ensures c.loop-class.invariant)

pub returns : goal.returns
returns c =
    lightened c.requires.loaded c.requires.children c.file_children.ensures c.loop-class.invariant (elim c.loop-class-test.branch [
      | then-loop-class-test+else-limit-weight w ↦ inr w.if-limit-weight.false
      | else-loop-class-test w ↦ inl (omega (arith, w.loop-class-test.false))
    ])
