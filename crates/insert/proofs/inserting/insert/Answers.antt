use native.Mathlib.Omega.{arith}
use mathlib.Core.Path.{refl, ◌∙◌}
use Rattle.growth.proofs.Regrown.{filed-growable}
use Rattle.insert.proofs.Puts.{put_all}
use Rattle.insert.proofs.Rest.{rest-faultless, rest-room, rest-grown, rest-moved}
use Rattle.growth.proofs.Rooms.{same-room}
use Rattle.insert.proofs.inserting.insert.Goals as goal

pub returns-then-count-at : goal.returns-then-count-at
returns-then-count-at c =
    let p = c.put_some-progress.ensures in (
      record {
        grown = put_all p.0 (omega (arith, c.requires.table.few)) (omega (arith, c.count.ensures, c.if-count-at.true));
        clear = c.clear.ensures;
      },
      p.1.differ,
    )

pub file_edges-requires : goal.file_edges-requires
file_edges-requires c =
    let u = c.put_some-progress.ensures.0 in
    let y = c.from.ensures in
    record {
      ends_len = omega (arith, u.same, c.requires.long);
      parents_len_bound = omega (arith, u.same, c.requires.table.few);
      parents_value = u.sound;
      edges_value = rest-faultless _ c.requires u y;
      edges_in_bounds = rest-room _ c.requires u y;
      lower_len_bound = omega (arith, c.requires.small);
    }

pub grow-grown-requires : goal.grow-grown-requires
grow-grown-requires c =
    let u = c.put_some-progress.ensures.0 in
    filed-growable c.file_edges.ensures (omega (arith, u.same, c.requires.table.few)) refl (omega (arith, u.same, c.requires.long_jump))

pub returns : goal.returns
returns c =
    let u = c.put_some-progress.ensures.0 in
    let y = c.from.ensures in
    let f = c.file_edges in
    let g = c.grow-grown.ensures in (
      record {
        grown = rest-grown _ c.requires u y c.file_edges.ensures g.0;
        clear = g.0.clear ∙ same-room _ _ _ _ _ _ c.file_edges.auto.ends refl c.file_edges.auto.lower;
      },
      rest-moved _ c.requires u y c.file_edges.ensures g.0 c.put_some-progress.ensures.1 g.1 c.min.ensures,
    )
