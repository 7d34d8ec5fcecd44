use lib.ListN.{length, length-set}
use lib.Seq.{get_or-set_other}
use mathlib.Core.Path.{refl, ◌∙◌, ◌≡◌}
use Rattle.growth.proofs.Climbs.{upward-at}
use Rattle.growth.proofs.NewParents.{untouched-none, untouched-on}
use Rattle.growth.proofs.Moves.{moves-none, moves-on}
use Rattle.growth.proofs.Gather.{begin-start, begin-next}
use native.Mathlib.Omega.{arith}
use native.Mathlib.Nat.{le_refl}
use Prim.Native.Nat.{◌<◌}
use Rattle.growth.proofs.climbing.step_all.Goals as goal

pub loop-place-init : goal.loop-place-init
loop-place-init c = record {
  same = refl;
  upward = c.requires.2;
  long = refl;
  inside = omega arith;
  ahead = λ j h. refl;
  untouched = untouched-none _ _;
  moves = moves-none _ _ _;
  begun = λ E s o. begin-start s;
}

pub loop-place-preserved : goal.loop-place-preserved
loop-place-preserved c =
    let t = c.loop-place.invariant in
    let k = c.step-first.ensures.0 in
    let inside : c.loop-place.place-index < length c.args.bucket.now = c.loop-place-test.true in
    let here : c.loop-place.place-index < length c.loop-place.bucket = omega (arith, t.long) in
    let u = t.ahead c.loop-place.place-index (le_refl _) in
    record {
      same = c.step-first.auto.parents ∙ t.same;
      upward = upward-at t.same k.upward;
      long = length-set c.loop-place.bucket _ _ ∙ t.long;
      inside = omega (arith, inside);
      ahead = λ j h. get_or-set_other c.loop-place.bucket _ j _ 0 (omega arith) ∙ t.ahead j (omega arith);
      untouched = untouched-on t.untouched k.untouched;
      moves = moves-on t.moves c.step-first.ensures.1;
      begun = λ E s o. begin-next t.same here u k (o.offer _ inside) (t.begun E s o);
    }

pub returns : goal.returns
returns c =
    let t = c.loop-place.invariant in
    let done : c.loop-place.place-index ≡ length c.args.bucket.now = omega (arith, c.loop-place-test.false, t.inside) in (
      record {
        upward = t.upward;
        long = t.long;
        untouched = t.untouched;
        begun = λ E s o. rw done at (t.begun E s o);
      },
      t.moves,
    )
