use native.Mathlib.Omega.{arith}
use mathlib.Core.Path.{◌≡◌, refl}
use mathlib.Core.Logic.{◌≢◌, ◌⊎◌, inl, inr}
use Prim.Native.Nat.{◌<◌, ◌≤◌}
use lib.ListN.{length}
use Rattle.game.specs.Game.{absent}
use Rattle.cut.proofs.Turns.{Found, restart-less, turn-begin, turn_inside, turn-few, turn-restart, turn-none, turn-found, turn-cut, turn-done, turn-less, scan-begin, at-inside, at_up, scan-taken, scan-passed, cut-least}
use Rattle.cut.proofs.trim.Goals.{Joined-found-most-2, then-loop-child-test+else-found-most, else-loop-child-test, then-found-most-2+else-start-first, else-found-most-2, then-found-here, else-found-here, Then-found-most}
use Rattle.cut.proofs.trim.Goals as goal

-- how the scan ended: at the end of the list, or at one that carries as much as any
over : (c : Joined-found-most-2) → (c.loop-child.child ≡ absent) ⊎ (c.cut.most ≤ c.loop-child.found)
over c =
    elim c.loop-child-test.branch [
      | then-loop-child-test+else-found-most w ↦ inr w.if-found-most.false
      | else-loop-child-test w ↦ inl w.loop-child-test.false
    ]

seen : (c : Joined-found-most-2) → (c.cut.most ≤ c.loop-child.found) ⊎ ((c.loop-child.found < c.cut.most) × (c.cut.start ≡ c.args.first))
seen c =
    elim c.if-found-most-2.branch [
      | then-found-most-2+else-start-first w ↦ inr (w.if-found-most-2.true, w.if-start-first.false)
      | else-found-most-2 w ↦ inl w.if-found-most-2.false
    ]

-- what it has found
heaviest-found : (c : Joined-found-most-2) → c.loop-child.found ≢ c.args.floor
    → Found c.args.carried.now c.cut.link c.args.x c.args.floor c.loop-child.heaviest c.loop-child.found
heaviest-found c d = turn-found c.requires.loaded c.requires.candidates c.cut.invariant c.loop-child.invariant (over c) (seen c) d

-- the child that is looked at stands within the tables
child-inside : (c : Then-found-most) → c.loop-child.child < length c.cut.link
child-inside c =
    at-inside c.loop-child.invariant (turn_inside c.requires.loaded c.requires.candidates c.cut.invariant) (turn-few c.requires.loaded c.requires.candidates c.cut.invariant) c.loop-child-test.true refl

pub cut-init : goal.cut-init
cut-init c = turn-begin c.requires.loaded c.requires.candidates

pub loop-child-init : goal.loop-child-init
loop-child-init c =
    scan-begin c.requires.loaded c.requires.candidates c.cut.invariant

pub bounds-link-at : goal.bounds-link-at
bounds-link-at c =
    child-inside (goal.at.bounds-link-at c).Then-found-most

pub bounds-carried-at : goal.bounds-carried-at
bounds-carried-at c =
    omega (arith, child-inside (goal.at.bounds-carried-at c).Then-found-most, c.requires.loaded.few, c.requires.loaded.tails, c.requires.loaded.told, c.cut.invariant.size)

pub bounds-next-at : goal.bounds-next-at
bounds-next-at c =
    omega (arith, child-inside (goal.at.bounds-next-at c).Then-found-most, c.requires.loaded.few, c.requires.loaded.tails, c.requires.loaded.told, c.cut.invariant.size)

pub loop-child-smaller : goal.loop-child-smaller
loop-child-smaller c =
    omega (
      arith,
      at_up c.loop-child.invariant (turn_inside c.requires.loaded c.requires.candidates c.cut.invariant) (turn-few c.requires.loaded c.requires.candidates c.cut.invariant)
          c.loop-child-test.true refl,
      child-inside (goal.at.loop-child-smaller c).Then-found-most,
      c.requires.loaded.few,
      c.requires.loaded.tails,
      c.requires.loaded.told,
      c.cut.invariant.size,
    )

pub loop-child-preserved : goal.loop-child-preserved
loop-child-preserved c =
    elim c.if-found-here.branch [
      | then-found-here w ↦ scan-taken c.loop-child.invariant (turn_inside c.requires.loaded c.requires.candidates c.cut.invariant) (turn-few c.requires.loaded c.requires.candidates c.cut.invariant)
          c.loop-child-test.true refl c.weight_on-here.ensures w.if-found-here.true w.heaviest-is w.found-is
      | else-found-here w ↦ scan-passed c.loop-child.invariant (turn_inside c.requires.loaded c.requires.candidates c.cut.invariant) (turn-few c.requires.loaded c.requires.candidates c.cut.invariant)
          c.loop-child-test.true refl c.weight_on-here.ensures w.if-found-here.false w.heaviest-is w.found-is
    ]

pub cut-smaller-then-start-first : goal.cut-smaller-then-start-first
cut-smaller-then-start-first c = restart-less _ _ _ _ c.if-start-first.true

pub cut-preserved-then-start-first : goal.cut-preserved-then-start-first
cut-preserved-then-start-first c =
    turn-restart c.requires.loaded c.requires.candidates c.cut.invariant

pub overflow_sub-uncut : goal.overflow_sub-uncut
overflow_sub-uncut c =
    cut-least c.requires.loaded c.requires.candidates c.cut.invariant (heaviest-found (goal.at.overflow_sub-uncut c).Joined-found-most-2 c.if-found-floor.false) c.if-weight-uncut.false refl

pub cut-smaller : goal.cut-smaller
cut-smaller c =
    turn-less c.requires.loaded c.requires.candidates c.cut.invariant (heaviest-found (goal.at.cut-smaller c).Joined-found-most-2 c.if-found-floor.false) c.if-weight-uncut.false refl

pub cut-preserved : goal.cut-preserved
cut-preserved c =
    turn-cut c.requires.loaded c.requires.candidates c.cut.invariant (heaviest-found (goal.at.cut-preserved c).Joined-found-most-2 c.if-found-floor.false) c.if-weight-uncut.false refl

pub returns-then-weight-uncut : goal.returns-then-weight-uncut
returns-then-weight-uncut c =
    turn-done c.requires.loaded c.requires.candidates c.cut.invariant c.if-weight-uncut.true

pub returns-then-found-floor : goal.returns-then-found-floor
returns-then-found-floor c =
    turn-none c.requires.loaded c.requires.candidates c.cut.invariant c.loop-child.invariant (over (goal.at.returns-then-found-floor c).Joined-found-most-2) (seen (goal.at.returns-then-found-floor c).Joined-found-most-2) c.if-found-floor.true
