use Rattle.reach_slots.proofs.Nets.{empty-tables}
use Rattle.reach_slots.proofs.overlap.count_overlaps.Goals as goal

pub visit-requires : goal.visit-requires
visit-requires c =
    let (eo, ea, ep) = c.requires.overlaps_len in
    let (es, filed, stops, g) = c.requires.by_index in
    (_, es, filed, stops, g, empty-tables _ g.layout.sound c.copy.ensures (c.fill.ensures.after (λ y e. e)) (c.fill-2.ensures.after (λ y e. e)) ep eo)

pub returns : goal.returns
returns c =
    λ es filed stops g.
    let (eo, ea, ep) = c.requires.overlaps_len in
    c.visit.ensures _ es filed stops g
    (empty-tables _ g.layout.sound c.copy.ensures (c.fill.ensures.after (λ y e. e)) (c.fill-2.ensures.after (λ y e. e)) ep eo)
