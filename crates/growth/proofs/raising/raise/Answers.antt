use mathlib.Core.Path.{refl, sym, ap, subst, subst₂, ◌∙◌, ◌≡◌}
use lib.ListN.{length, get_or}
use Rattle.sorting.specs.Sorted.{begin}
use Rattle.bucket.proofs.Reading.{begin-next, filed-part}
use Rattle.growth.specs.Growth.{Upward, Raised}
use Rattle.growth.proofs.NewParents.{new-blank, untouched-none, untouched-on}
use Rattle.growth.proofs.Moves.{moves-none, moves-on}
use Rattle.growth.proofs.Climbs.{upward-at, upward-blank}
use Rattle.growth.proofs.Raise.{raise-start, raise-gather, raise-end}
use Rattle.growth.proofs.ReadUpTo.{read-start, read-part, read-on}
use native.Mathlib.Omega.{arith}
use Prim.Native.Nat.{◌-◌, ◌<◌}
use Rattle.growth.proofs.raising.raise.Goals as goal

pub loop-y-init : goal.loop-y-init
unfolding begin
loop-y-init g c =
    let b = c.requires in
    record {
      same = b.long;
      untouched = untouched-none _ _;
      moves = moves-none _ _ _;
      upward = subst (Upward _) (sym b.blank_jump) (upward-blank _);
      within = omega arith;
      start = refl;
      reading = read-start _ _;
      raised = λ E k f. subst₂ (Raised _ E 0) (sym (new-blank _ b.long b.blank_jump)) (sym b.blank_jump) (raise-start _ E (omega (arith, b.buckets.few)));
    }

pub loop-y-preserved : goal.loop-y-preserved
loop-y-preserved g c =
    let t = c.loop-y.invariant in
    let here : c.loop-y.y < length c.args.ends.now = c.loop-y-test.true in
    let b = c.requires.buckets in
    let x = c.gather-moved.ensures.0 in
    record {
      same = c.gather-moved.auto.parents ∙ t.same;
      upward = upward-at t.same x.upward;
      within = omega arith;
      start = sym (begin-next _ _);
      reading = read-on t.reading (get_or c.args.ends.now c.loop-y.y 0) (omega (arith, t.start, b.rising _ here)) (omega (arith, t.reading.long, b.room _ here)) x.leaves;
      untouched = untouched-on t.untouched x.untouched;
      moves = moves-on t.moves c.gather-moved.ensures.1;
      raised = λ E k f. raise-gather t.same (read-part t.reading (get_or c.args.ends.now c.loop-y.y 0 - c.loop-y.at) ∙ filed-part f _ here t.start refl) x k (t.raised E k f);
    }

pub returns : goal.returns
returns g c =
    let t = c.loop-y.invariant in
    let done : c.loop-y.y ≡ length c.args.ends.now = omega (arith, c.loop-y-test.false, t.within) in (
      record {
        untouched = t.untouched;
        raised = λ E k f. raise-end k c.loop-y-test.false (t.raised E k f);
        last = t.start ∙ ap (begin _) done;
        leaves = t.reading;
      },
      t.moves,
    )
