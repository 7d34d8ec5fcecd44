use mathlib.Core.Path.{refl, sym, subst, subst₂, ◌∙◌}
use Prim.Native.Nat.{ℕ}
use native.Mathlib.Omega.{arith}
use Rattle.refusal.proofs.Fault.{list-proper}
use Rattle.bucket.proofs.Charging.{charging-room, charging-turn, charging-end}
use Rattle.bucket.proofs.Ends.{upper-max, lower-min}
use Rattle.bucket.proofs.Sweeping.{owner-end, faultless-owner}
use Rattle.growth.specs.Growth.{Upward}
use Rattle.growth.proofs.Climbs.{upward-blank}
use Rattle.growth.proofs.NewParents.{new-blank, untouched-none, untouched-on}
use Rattle.growth.proofs.Moves.{moves-none, moves-on}
use Rattle.rising.proofs.Rising.{rises-faultless}
use Rattle.rising.proofs.Taking.{Taking, taking-start, taking-faultless, taking-upper, taking-edge, taking-end}
use Rattle.rising.proofs.raise_list.Goals as goal

pub loop-tie-init : goal.loop-tie-init
loop-tie-init c =
    let (r, blank) = c.requires in
    rw (c.into_iter-tie-iterator.ensures.into_iter_gives, c.ties-tie-items.ensures)
    (record {
      same = refl;
      upward = subst (Upward _) (sym (blank)) (upward-blank _);
      untouched = untouched-none _ _;
      moves = moves-none _ _ _;
      charging = record { long = r.long; room = r.room; same = refl };
      taking = subst₂ (Taking _ _ _) (sym (new-blank _ refl (blank))) (sym (blank)) (taking-start _ (omega (arith, r.few)) r.rises);
    })

pub add_at-requires : goal.add_at-requires
add_at-requires c =
    let t = c.loop-tie.invariant in
    let head = c.in-Some.ensures.steps in
    let low = faultless-owner _ _ _ _ c.lower-u.ensures (taking-faultless t.taking head) in
    record {
      i_in_bounds = omega (arith, low.0, t.charging.long);
      v_bound = charging-room t.charging head low.1 (owner-end _ _ c.lower-u.ensures) low.0;
    }

pub climb-moved-requires : goal.climb-moved-requires
climb-moved-requires c =
    let t = c.loop-tie.invariant in
    let head = c.in-Some.ensures.steps in
    let top = taking-upper _ _ _ _ (taking-faultless t.taking head) in
    (omega (arith, c.upper-y.ensures, upper-max c.in-Some.tie.a c.in-Some.tie.b, top, t.same), omega (arith, t.same, c.requires.0.few), subst (λ (m : ℕ). Upward m c.loop-tie.jump) (sym t.same) t.upward)

pub loop-tie-preserved : goal.loop-tie-preserved
loop-tie-preserved c =
    let t = c.loop-tie.invariant in
    let (k, m) = c.climb-moved.ensures in
    let head = c.in-Some.ensures.steps in
    let low = faultless-owner _ _ _ _ c.lower-u.ensures (taking-faultless t.taking head) in
    record {
      same = c.climb-moved.auto.parents ∙ t.same;
      upward = subst (λ (n : ℕ). Upward n c.climb-moved.new.jump) t.same k.upward;
      untouched = untouched-on t.untouched k.untouched;
      moves = moves-on t.moves m;
      charging = rw c.add_at.ensures (charging-turn t.charging head low.1 (owner-end _ _ c.lower-u.ensures) low.0);
      taking = taking-edge t.taking head (c.lower-u.ensures ∙ sym (lower-min _ _)) (c.upper-y.ensures ∙ sym (upper-max _ _)) t.same k;
    }

pub returns : goal.returns
returns c =
    let t = c.loop-tie.invariant in
    let none = c.in-None.ensures.steps.0 in (
      taking-end t.taking none (list-proper _ _ (rises-faultless c.requires.0.rises)),
      charging-end t.charging none,
      t.untouched,
      t.moves,
    )
