use mathlib.Core.Path.{refl}
use native.Mathlib.Omega.{arith}
use Prim.Native.Nat.{◌<◌}
use lib.ListN.{length, get_or, length-set}
use Rattle.groups.proofs.Ranks.{cutting-begin, cutting-done, cutting-loaded, cutting-children, step-root, step-child, hand-inside, hand-fits}
use Rattle.groups.proofs.cutting.cut.Goals.{then-parent, else-parent, Else-parent}
use Rattle.groups.proofs.cutting.cut.Goals as goal

-- a parent stands within the tables
above-inside : (c : Else-parent) → get_or c.args.parents.now c.loop-x.x 0 < length c.args.parents.now
above-inside c =
    hand-inside c.requires.divisible c.loop-x.invariant c.loop-x-test.true c.lighten-kept.ensures c.lighten-kept.auto.link c.lighten-kept.auto.next refl c.if-parent.false

pub loop-x-init : goal.loop-x-init
loop-x-init c =
    cutting-begin c.requires.divisible c.requires.carried_value.0 c.requires.carried_value.1 c.requires.next_len

pub lighten-kept-requires : goal.lighten-kept-requires
lighten-kept-requires c =
    record {
      loaded = cutting-loaded c.requires.divisible c.loop-x.invariant c.loop-x-test.true;
      children = cutting-children c.requires.divisible c.loop-x.invariant c.loop-x-test.true;
    }

pub bounds-link-above : goal.bounds-link-above
bounds-link-above c =
    omega (arith, above-inside (goal.at.bounds-link-above c).Else-parent, c.requires.divisible.few, c.loop-x.invariant.linked, c.loop-x.invariant.told, c.loop-x.invariant.tails, c.lighten-kept.auto.link)

pub bounds-link-above-else-parent : goal.bounds-link-above-else-parent
bounds-link-above-else-parent c =
    omega (arith, above-inside (goal.at.bounds-link-above-else-parent c).Else-parent, c.requires.divisible.few, c.loop-x.invariant.linked, c.loop-x.invariant.told, c.loop-x.invariant.tails, c.lighten-kept.auto.link)

pub bounds-carried-above : goal.bounds-carried-above
bounds-carried-above c =
    rw length-set (omega (arith, above-inside (goal.at.bounds-carried-above c).Else-parent, c.requires.divisible.few, c.loop-x.invariant.linked, c.loop-x.invariant.told, c.loop-x.invariant.tails, c.lighten-kept.auto.link))

pub overflow_add-carried : goal.overflow_add-carried
overflow_add-carried c =
    omega (
      arith,
      hand-fits c.requires.divisible c.loop-x.invariant c.loop-x-test.true c.lighten-kept.ensures c.lighten-kept.auto.link
          c.lighten-kept.auto.next refl c.if-parent.false,
    )

pub bounds-carried-above-else-parent : goal.bounds-carried-above-else-parent
bounds-carried-above-else-parent c =
    rw length-set (omega (arith, above-inside (goal.at.bounds-carried-above-else-parent c).Else-parent, c.requires.divisible.few, c.loop-x.invariant.linked, c.loop-x.invariant.told, c.loop-x.invariant.tails, c.lighten-kept.auto.link))

pub loop-x-preserved : goal.loop-x-preserved
loop-x-preserved c =
    elim c.if-parent.branch [
      | then-parent w ↦ step-root c.requires.divisible c.loop-x.invariant c.loop-x-test.true c.lighten-kept.ensures c.lighten-kept.auto.link c.lighten-kept.auto.next
          w.if-parent.true w.carried-is w.link-is w.next-is
      | else-parent w ↦ step-child c.requires.divisible c.loop-x.invariant c.loop-x-test.true c.lighten-kept.ensures c.lighten-kept.auto.link c.lighten-kept.auto.next
          refl w.if-parent.false w.carried-is w.link-is w.next-is
    ]

pub returns : goal.returns
returns c = cutting-done c.requires.divisible c.loop-x.invariant c.loop-x-test.false
