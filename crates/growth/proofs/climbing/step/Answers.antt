use native.Mathlib.Omega.{arith}
use mathlib.Core.Logic.{◌≢◌}
use Prim.Native.Nat.{◌<◌}
use lib.ListN.{length}
use Rattle.game.specs.Game.{absent}
use Rattle.growth.proofs.NewParents.{untouched-none, untouched-pass, untouched-link}
use Rattle.growth.proofs.Moves.{moves-none, moves-pass, moves-link}
use Rattle.growth.proofs.Climbs.{climb-start, climb-jump, climb-root, climb-ended, upward-set, upward-next}
use Rattle.growth.proofs.climbing.step.Goals as goal

pub returns-then-y-w : goal.returns-then-y-w
returns-then-y-w c =
    let (top, few, up) = c.requires in
    (record { higher = λ h. absurd (omega (arith, c.if-y-w.true)); upward = up; untouched = untouched-none _ _; stepped = λ E ws s e. climb-start s top e }, moves-none _ _ _)

pub returns-then-next : goal.returns-then-next
returns-then-next c =
    let (top, few, up) = c.requires in
    let low : c.args.w < c.args.y = omega (arith, c.if-y-w.false) in
    let none = c.if-next.true in
    let real : c.args.y ≢ absent = omega (arith, top, few) in
    let inside : c.args.w < length c.args.jump.now = omega (arith, low, top, up.long) in
    rw (c.link-lowest.ensures.0, c.link-lowest.ensures.1) (
      record {
        higher = λ h. h;
        upward = upward-set _ _ low up;
        untouched = untouched-link _ _ inside real;
        stepped = λ E ws s e. climb-ended top (climb-root _ (climb-start s top e) low none);
      },
      moves-link _ _ _ inside real none (omega (arith, low, top)),
    )

pub returns : goal.returns
returns c =
    let (top, few, up) = c.requires in
    let low : c.args.w < c.args.y = omega (arith, c.if-y-w.false) in
    let real : c.args.y ≢ absent = omega (arith, top, few) in
    let inside : c.args.w < length c.args.jump.now = omega (arith, low, top, up.long) in (
      record {
        higher = λ h. upward-next _ up (omega (arith, low, top)) c.if-next.false;
        upward = upward-set _ _ low up;
        untouched = untouched-pass _ _ inside real;
        stepped = λ E ws s e. climb-jump _ (climb-start s top e) low c.if-next.false;
      },
      moves-pass _ _ _ inside real,
    )
