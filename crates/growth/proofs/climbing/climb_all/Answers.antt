use lib.ListN.{length}
use mathlib.Core.Path.{refl, ◌∙◌}
use Rattle.growth.proofs.Flags.{left-clear, left-kept}
use Rattle.growth.proofs.Climbs.{upward-at}
use Rattle.growth.proofs.NewParents.{untouched-none, untouched-on}
use Rattle.growth.proofs.Moves.{moves-none, moves-on}
use Rattle.growth.proofs.Gather.{climbs-start, climbs-next, climbs-end}
use Rattle.growth.proofs.ReadUpTo.{read-start, read-ahead, read-turn, read-end}
use native.Mathlib.Omega.{arith}
use Prim.Native.Nat.{◌<◌}
use Rattle.growth.proofs.climbing.climb_all.Goals as goal
use Rattle.growth.proofs.climbing.climb_all.Goals.{then-not-this, else-not-this}

pub loop-place-init : goal.loop-place-init
loop-place-init g c = record {
  same = refl;
  upward = c.requires.2;
  reading = read-start _ _;
  untouched = untouched-none _ _;
  moves = moves-none _ _ _;
  climbed = λ E s o. climbs-start s;
}

pub loop-place-preserved : goal.loop-place-preserved
loop-place-preserved g c =
    let t = c.loop-place.invariant in
    let k = c.climb-lowest.ensures.0 in
    let inside : c.loop-place.place-index < length c.args.vertices.now = c.loop-place-test.true in
    let here : c.loop-place.place-index < length c.loop-place.vertices = omega (arith, t.reading.long) in
    let u = read-ahead t.reading here in
    record {
      same = c.climb-lowest.auto.parents ∙ t.same;
      upward = upward-at t.same k.upward;
      reading = elim c.if-not-this.branch [
        | then-not-this w ↦ rw w.vertices-is (read-turn t.reading here u (left-clear _ w.if-not-this.true))
        | else-not-this w ↦ rw w.vertices-is (read-turn t.reading here u (left-kept _ w.if-not-this.false))
      ];
      untouched = untouched-on t.untouched k.untouched;
      moves = moves-on t.moves c.climb-lowest.ensures.1;
      climbed = λ E s o. climbs-next t.same inside u k o (t.climbed E s o);
    }

pub returns : goal.returns
returns g c =
    let t = c.loop-place.invariant in (
      record {
        upward = t.upward;
        leaves = read-end t.reading (omega (arith, c.loop-place-test.false, t.reading.long));
        untouched = t.untouched;
        climbed = λ E s o. climbs-end c.loop-place-test.false (t.climbed E s o);
      },
      t.moves,
    )
