use native.Mathlib.Omega.{arith}
use mathlib.Core.Path.{refl, sym, ap, ◌∙◌}
use Prim.Native.Nat.{◌<◌}
use lib.ListN.{length}
use Rattle.pack.specs.Lightest.{lightest}
use Rattle.pack.proofs.Winners.{lightest-zeros, tournament-same, outdated}
use Rattle.pack.proofs.Blocks.{packs-none, packs-few, packs-all, packs-pass, packs-inside, packs-fits, packs-more}
use Rattle.pack.proofs.pack.Goals.{then-above-x, else-above-x, Then-above-x}
use Rattle.pack.proofs.pack.Goals as goal

-- the block that a group goes into
best-inside : (c : Then-above-x) → c.loop-x.best < length c.loop-x.loads
best-inside c =
    packs-inside c.requires.packable c.loop-x.invariant.0 c.loop-x-test.true c.if-above-x.true c.loop-x.invariant.2

pub loop-x-init : goal.loop-x-init
loop-x-init c =
    (packs-none c.requires.packable c.requires.loads_value, tournament-same c.requires.loads_value refl c.start.ensures, lightest-zeros c.requires.loads_value c.requires.packable.some)

pub overflow_cast-block : goal.overflow_cast-block
overflow_cast-block c =
    omega (arith, best-inside (goal.at.overflow_cast-block c).Then-above-x, packs-few c.requires.packable c.loop-x.invariant.0)

pub offset_bounds-loads-best : goal.offset_bounds-loads-best
offset_bounds-loads-best c =
    omega (arith, best-inside (goal.at.offset_bounds-loads-best c).Then-above-x, packs-few c.requires.packable c.loop-x.invariant.0)

pub bounds-loads-best : goal.bounds-loads-best
bounds-loads-best c =
    best-inside (goal.at.bounds-loads-best c).Then-above-x

pub overflow_add-loads : goal.overflow_add-loads
overflow_add-loads c =
    omega (arith, packs-fits c.requires.packable c.loop-x.invariant.0 c.loop-x-test.true c.if-above-x.true c.loop-x.invariant.2)

pub bounds-loads-best-then-above-x : goal.bounds-loads-best-then-above-x
bounds-loads-best-then-above-x c =
    best-inside (goal.at.bounds-loads-best-then-above-x c).Then-above-x

pub replay-best-requires : goal.replay-best-requires
replay-best-requires c =
    outdated c.loop-x.invariant.1 (packs-few c.requires.packable c.loop-x.invariant.0) _ (best-inside (goal.at.replay-best-requires c).Then-above-x)

pub loop-x-preserved : goal.loop-x-preserved
loop-x-preserved c =
    elim c.if-above-x.branch [
      | then-above-x w ↦ (
        packs-more c.requires.packable c.loop-x.invariant.0 c.loop-x-test.true w.if-above-x.true c.loop-x.invariant.2 w.block-is w.loads-is,
        tournament-same w.loads-is w.nodes-is w.replay-best.ensures.0,
        w.best-is ∙ w.replay-best.ensures.1 ∙ ap lightest (sym w.loads-is),
      )
      | else-above-x w ↦ (
        packs-pass c.requires.packable c.loop-x.invariant.0 c.loop-x-test.true w.if-above-x.false w.block-is w.loads-is,
        tournament-same w.loads-is w.nodes-is c.loop-x.invariant.1,
        w.best-is ∙ c.loop-x.invariant.2 ∙ ap lightest (sym w.loads-is),
      )
    ]

pub returns : goal.returns
returns c = packs-all c.requires.packable c.loop-x.invariant.0 c.loop-x-test.false
