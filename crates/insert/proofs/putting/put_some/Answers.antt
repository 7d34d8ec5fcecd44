use mathlib.Core.Logic.{inl}
use lib.ListN.{length}
use mathlib.Core.Path.{◌≡◌, ap}
use native.Mathlib.Omega.{arith}
use Rattle.game.proofs.Edges.{edges-ties}
use Rattle.moved.proofs.Fallen.{fallen-none}
use Rattle.insert.proofs.Puts.{put-none, put-ends, put-ordered, put_next, ties-on, edge-first, tie-inside, edges-end}
use Rattle.insert.proofs.putting.put_some.Goals as goal

-- the numbers of ties fit, as their count does
pub loop-i-init-derived : goal.loop-i-init-derived
loop-i-init-derived c =
    rw c.into_iter-i-iterator.ensures.into_iter_gives ((tt, tt, inl (omega (arith, c.enumerate-i-items.ensures.remaining, c.enumerate-i-items.ensures.count, ap length c.ties.ensures, edges-ties c.args.edges.now, c.count-m.ensures, c.count-m.type_inv))), tt)

pub loop-i-init : goal.loop-i-init
loop-i-init c =
    rw (c.into_iter-i-iterator.ensures.into_iter_gives, c.enumerate-i-items.ensures.source, c.enumerate-i-items.ensures.count)
    (c.ties.ensures, put-none c.requires.0 c.requires.1, omega arith, fallen-none _)

pub put_up-taken-requires : goal.put_up-taken-requires
put_up-taken-requires c =
    let t = c.loop-i.invariant in
    let first = c.in-Some.ensures.steps.0 in
    let ends = put-ends t.1 (tie-inside _ _ t.0 first) (edge-first _ _ t.0 first) in
    (record { few = omega (arith, t.1.same, c.requires.0.few); sound = t.1.sound }, omega (arith, c.lower.ensures, c.upper.ensures, ends.2), omega (arith, c.upper.ensures, ends.0, ends.1))

pub loop-i-preserved : goal.loop-i-preserved
loop-i-preserved c =
    let t = c.loop-i.invariant in
    let s = c.in-Some.ensures.steps in
    let x = c.put_up-taken.ensures in
    rw s.2 (
      ties-on _ _ t.0 s.0,
      put_next t.1 (tie-inside _ _ t.0 s.0) (edge-first _ _ t.0 s.0) (put-ordered c.lower.ensures c.upper.ensures x.0),
      omega (arith, x.0.quick, t.1.same, c.if-budget-steps.false),
      x.1.fallen _ t.3,
    )

pub returns : goal.returns
returns c =
    let t = c.loop-i.invariant in
    let all : c.count-m.result ≡ c.loop-i.i-iterator.count = omega (arith, c.count-m.ensures, t.1.inside, edges-end _ _ t.0 c.in-None.ensures.steps.0.0) in
    rw all (t.1, t.3)
