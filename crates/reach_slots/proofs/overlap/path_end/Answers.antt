use native.Mathlib.Omega.{arith}
use mathlib.Core.Path.{refl, sym, ◌∙◌}
use Prim.Native.Nat.{ℕ, ◌<◌}
use lib.ListN.{length, set, length-set}
use mathlib.Core.List.{List}
use Rattle.reach_slots.specs.Jumps.{Jumps, Under}
use Rattle.reach_slots.proofs.Climbing.{Stands, stays, stands-first, stands-next, stands-end, stands-halve}
use Rattle.reach_slots.proofs.overlap.path_end.Goals.{After-read_at-next, After-read_at-q}
use Rattle.reach_slots.proofs.overlap.path_end.Goals as goal

-- the pointer of a vertex that is over leads into the table
inside : (c : After-read_at-q) → c.read_at-q.result < length c.args.ends.now
inside c =
    let (p, j, u) = c.requires in
    let st = c.loop-ancestor.invariant.3 p j u in
    rw u.entries (stands-next st c.read_at.ensures c.loop-ancestor-test.true c.read_at-q.ensures).inside

-- a turn of the loop
turn : (c : After-read_at-next) (p : List ℕ)
    → Jumps p c.args.ends.now
    c.args.ancestor.now
    c.args.k
    → Under p c.args.ends.now
    c.args.k
    c.args.v
    c.args.y
    → Stands p c.args.ends.now
    (set c.loop-ancestor.ancestor c.loop-ancestor.r c.read_at-next.result)
    c.args.k
    c.args.v
    c.args.y c.read_at-next.result
    × (c.loop-ancestor.r < c.read_at-next.result)
turn c p j u =
    stands-halve (c.loop-ancestor.invariant.3 p j u) c.read_at.ensures
    c.loop-ancestor-test.true c.read_at-q.ensures
    c.read_at-in-loop-ancestor.ensures c.if-k-read_at.false c.read_at-next.ensures

pub returns-then-v-eq-ABSENT : goal.returns-then-v-eq-ABSENT
returns-then-v-eq-ABSENT c = λ p j u. (j, stays u c.if-v-eq-ABSENT.true)

pub loop-ancestor-init : goal.loop-ancestor-init
loop-ancestor-init c =
    let (p, j, u) = c.requires in
    (refl, u.entries ∙ sym j.entries, rw u.entries (stands-first j u c.if-v-eq-ABSENT.false).inside, λ p j u. stands-first j u c.if-v-eq-ABSENT.false)

pub read_at-requires-in-loop-ancestor : goal.read_at-requires-in-loop-ancestor
read_at-requires-in-loop-ancestor c = inside (goal.at.read_at-requires-in-loop-ancestor c).After-read_at-q

pub returns-then-k-read_at : goal.returns-then-k-read_at
returns-then-k-read_at c =
    λ p j u.
    let st = c.loop-ancestor.invariant.3 p j u in
    (st.jumps, stands-end (stands-next st c.read_at.ensures c.loop-ancestor-test.true c.read_at-q.ensures) c.read_at-in-loop-ancestor.ensures c.if-k-read_at.true)

pub read_at-next-requires : goal.read_at-next-requires
read_at-next-requires c = let h = inside (goal.at.read_at-next-requires c).After-read_at-q in omega arith

pub loop-ancestor-smaller : goal.loop-ancestor-smaller
loop-ancestor-smaller c =
    let (p, j, u) = c.requires in
    let (st, h) = turn (goal.at.loop-ancestor-smaller c).After-read_at-next p j u in
    let l = rw (← u.entries) at st.inside in
    omega arith

pub loop-ancestor-preserved : goal.loop-ancestor-preserved
loop-ancestor-preserved c =
    let (p, j, u) = c.requires in
    let inv = c.loop-ancestor.invariant in
    (simp length-set inv.0, simp length-set inv.1, rw u.entries (turn (goal.at.loop-ancestor-preserved c).After-read_at-next p j u).0.inside, λ p j u. (turn (goal.at.loop-ancestor-preserved c).After-read_at-next p j u).0)

pub returns : goal.returns
returns c = λ p j u. let st = c.loop-ancestor.invariant.3 p j u in (st.jumps, stands-end st c.read_at.ensures c.loop-ancestor-test.false)
