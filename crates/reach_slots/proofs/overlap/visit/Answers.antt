use native.Mathlib.Omega.{arith}
use mathlib.Core.Path.{refl, sym, ap, ◌∙◌}
use Prim.Native.Nat.{ℕ}
use lib.ListN.{length, length-set}
use mathlib.Core.List.{List}
use Rattle.game.specs.Edge.{Edge}
use Rattle.reach_slots.proofs.Turns.{Slot, slot-mark, slot-first, slot-other}
use Rattle.reach_slots.proofs.Visiting.{Counting, counting-first, slot-inside, path-under, overlap-fits, counting-step, visited-last}
use Rattle.reach_slots.proofs.overlap.visit.Goals.{Joined-k-stop, else-k-stop, then-k-stop}
use Rattle.reach_slots.proofs.overlap.visit.Goals as goal

-- the edge in slot k, whichever way its ends were read
slot : (c : Joined-k-stop) {p filed stops : List ℕ} {es : List Edge}
    → Counting p c.args.counts.now es filed stops
    c.args.ends.now
    c.args.first.now
    c.args.slots.now c.loop-k.ancestor
    c.loop-k.previous c.loop-k.overlaps c.loop-k.k c.loop-k.u
    c.loop-k.stop
    → Slot c.args.counts.now stops filed c.loop-k.k c.if-k-stop.u c.if-k-stop.y c.if-k-stop.stop
slot c d =
    let l = d.slotted.layout in
    let m = d.slotted.marked in
    let h = c.loop-k-test.true in
    elim c.if-k-stop.branch [
      | then-k-stop w ↦ slot-first l h m d.turn w.if-k-stop.true refl w.read_at.ensures w.read_at-y.ensures w.u-is w.stop-is w.y-is
      | else-k-stop w ↦ slot-other l h m d.turn w.if-k-stop.false refl w.u-is w.stop-is w.y-is
    ]

pub loop-k-init : goal.loop-k-init
loop-k-init c = (refl, refl, refl, λ p es filed stops g e. counting-first g e)

pub read_at-requires : goal.read_at-requires
read_at-requires c =
    let (p, es, filed, stops, g, e) = c.requires in
    let d = c.loop-k.invariant.3 p es filed stops g e in
    let h = (slot-mark g.layout c.loop-k-test.true g.marked d.turn c.if-k-stop.true refl).0 in
    rw (g.entries.0, ← g.layout.entries) h

pub overflow_add-stop : goal.overflow_add-stop
overflow_add-stop c =
    let (p, es, filed, stops, g, e) = c.requires in
    let d = c.loop-k.invariant.3 p es filed stops g e in
    let h = (slot-mark g.layout c.loop-k-test.true g.marked d.turn c.if-k-stop.true refl).1 in
    omega (arith, g.few, c.read_at.ensures)

pub read_at-y-requires : goal.read_at-y-requires
read_at-y-requires c =
    let (p, es, filed, stops, g, e) = c.requires in
    let d = c.loop-k.invariant.3 p es filed stops g e in
    let h = (slot-mark g.layout c.loop-k-test.true g.marked d.turn c.if-k-stop.true refl).0 in
    rw (g.entries.1, ← g.layout.entries) h

pub read_at-v-requires : goal.read_at-v-requires
read_at-v-requires c =
    let (p, es, filed, stops, g, e) = c.requires in
    let d = c.loop-k.invariant.3 p es filed stops g e in
    slot-inside d (slot (goal.at.read_at-v-requires c).Joined-k-stop d)

pub path_end-r-requires : goal.path_end-r-requires
path_end-r-requires c =
    let (p, es, filed, stops, g, e) = c.requires in
    let d = c.loop-k.invariant.3 p es filed stops g e in
    (p, d.jumps, path-under d (slot (goal.at.path_end-r-requires c).Joined-k-stop d) c.read_at-v.ensures)

pub add_at-requires : goal.add_at-requires
add_at-requires c =
    let (p, es, filed, stops, g, e) = c.requires in
    let d = c.loop-k.invariant.3 p es filed stops g e in
    let s = slot (goal.at.add_at-requires c).Joined-k-stop d in
    let rv = c.read_at-v.ensures in
    let both = overlap-fits d s rv (c.path_end-r.ensures p d.jumps (path-under d s rv)).1 c.loop-k-test.true in
    record { i_in_bounds = both.0; v_bound = both.1 }

pub write_at-requires : goal.write_at-requires
write_at-requires c =
    let (p, es, filed, stops, g, e) = c.requires in
    let d = c.loop-k.invariant.3 p es filed stops g e in
    slot-inside d (slot (goal.at.write_at-requires c).Joined-k-stop d)

pub loop-k-preserved : goal.loop-k-preserved
loop-k-preserved c =
    let (a, b, o, inv) = c.loop-k.invariant in
    let rv = c.read_at-v.ensures in
    let (p, es, filed, stops, g, e) = c.requires in
    let d = inv p es filed stops g e in
    let js = (c.path_end-r.ensures p d.jumps (path-under d (slot (goal.at.loop-k-preserved c).Joined-k-stop d) rv)).0 in (
      js.entries ∙ sym d.jumps.entries ∙ a,
      ap length c.write_at.ensures ∙ simp length-set b,
      ap length c.add_at.ensures ∙ simp length-set o,
      λ p es filed stops g e.
          let d = inv p es filed stops g e in
          let s = slot (goal.at.loop-k-preserved c).Joined-k-stop d in
          let (js, f) = c.path_end-r.ensures p d.jumps (path-under d s rv) in
          counting-step d s rv f js c.add_at.ensures c.write_at.ensures,
    )

pub returns : goal.returns
returns c = λ p es filed stops g e. visited-last g c.loop-k-test.false (c.loop-k.invariant.3 p es filed stops g e).visited
