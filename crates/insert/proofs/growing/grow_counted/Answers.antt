use mathlib.Core.Path.{refl, sym, ap, ◌∙◌}
use Prim.Native.Nat.{ℕ}
use native.Mathlib.Omega.{arith}
use Rattle.game.specs.Edge.{edges as edges_of}
use Rattle.bucket.specs.PlacingSteps.{upper_counts}
use Rattle.growth.proofs.NewParents.{links-blank}
use Rattle.growth.proofs.Regrown.{filed-growable, grown-filed}
use Rattle.growth.proofs.Rooms.{same-room}
use Rattle.insert.proofs.First.{first-links, charged-long, charged-room, charged-weighs}
use Rattle.insert.proofs.Puts.{put-none}
use Rattle.insert.proofs.Rest.{rest-grown}
use Rattle.insert.proofs.growing.grow_counted.Goals as goal

pub add_all-requires : goal.add_all-requires
add_all-requires c =
    (charged-long c.requires.0 c.requires.1 c.requires.2, charged-room c.requires.0 c.requires.1 c.requires.2)

pub file_counted-requires : goal.file_counted-requires
file_counted-requires c =
    let e = c.requires.0 in
    record {
      ends_value = c.requires.2.counts ∙ ap (λ (k : ℕ). upper_counts k (edges_of c.args.edges.now)) (sym e.long);
      edges_value = rw e.long e.faultless;
      edges_in_bounds = omega (arith, e.room);
      lower_len_bound = omega (arith, e.small);
    }

pub grow-requires : goal.grow-requires
grow-requires c =
    let e = c.requires.0 in
    filed-growable c.file_counted.ensures (omega (arith, e.long, e.table.few)) (sym e.long) (e.long_jump ∙ sym e.long)

pub returns-then-is_all : goal.returns-then-is_all
returns-then-is_all c =
    let blank = c.is_all.ensures c.if-is_all.true in
    let g = grown-filed c.file_counted.ensures (links-blank _ blank) c.grow.ensures.0.grown in (
      record {
        grown = g ∙ first-links _ blank c.requires.0.long;
        clear = c.grow.ensures.0.clear ∙ same-room _ _ _ _ _ _ c.file_counted.auto.ends refl c.file_counted.auto.lower;
      },
      c.add_all.ensures ∙ charged-weighs c.requires.0 c.requires.1 c.requires.2,
      c.grow.ensures.1,
    )

pub file_counted_edges-requires : goal.file_counted_edges-requires
file_counted_edges-requires c =
    let e = c.requires.0 in
    record {
      ends_value = c.requires.2.counts;
      parents_value = e.table.sound;
      edges_value = e.faultless;
      edges_in_bounds = e.room;
      lower_len_bound = omega (arith, e.small);
    }

pub grow-requires-2 : goal.grow-requires-2
grow-requires-2 c =
    filed-growable c.file_counted_edges.ensures c.requires.0.table.few refl c.requires.0.long_jump

pub returns : goal.returns
returns c =
    let e = c.requires.0 in (
      record {
        grown = rest-grown _ e (put-none e.table e.faultless) refl c.file_counted_edges.ensures c.grow-2.ensures.0;
        clear = c.grow-2.ensures.0.clear ∙ same-room _ _ _ _ _ _ c.file_counted_edges.auto.ends refl c.file_counted_edges.auto.lower;
      },
      c.add_all.ensures ∙ charged-weighs e c.requires.1 c.requires.2,
      c.grow-2.ensures.1,
    )
