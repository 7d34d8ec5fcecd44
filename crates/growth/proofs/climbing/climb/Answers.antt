use mathlib.Core.Path.{refl, ◌∙◌}
use Rattle.growth.proofs.NewParents.{untouched-none, untouched-on}
use Rattle.growth.proofs.Moves.{moves-none, moves-on}
use Rattle.growth.proofs.Climbs.{upward-at, climb-start, climb-next, climb-done}
use Rattle.growth.proofs.climbing.climb.Goals as goal

pub loop-w-init : goal.loop-w-init
loop-w-init c =
    let (top, few, up) = c.requires in
    record { same = refl; upward = up; untouched = untouched-none _ _; moves = moves-none _ _ _; climbing = λ E ws s e. climb-start s top e }

pub loop-w-preserved : goal.loop-w-preserved
loop-w-preserved c =
    let t = c.loop-w.invariant in
    let (k, m) = c.step-next.ensures in
    record {
      same = c.step-next.auto.parents ∙ t.same;
      upward = upward-at t.same k.upward;
      untouched = untouched-on t.untouched k.untouched;
      moves = moves-on t.moves m;
      climbing = λ E ws s e. climb-next t.same k (t.climbing E ws s e);
    }

pub returns : goal.returns
returns c =
    let t = c.loop-w.invariant in
    (record { upward = t.upward; untouched = t.untouched; climbed = λ E ws s e. climb-done (t.climbing E ws s e) c.loop-w-test.false }, t.moves)
