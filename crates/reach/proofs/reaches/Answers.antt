use native.Mathlib.Omega.{arith}
use mathlib.Core.Path.{sym, ◌∙◌}
use Rattle.game.specs.Net.{reach as reach_of}
use Rattle.bucket.specs.Filed.{in_buckets}
use lib.ListN.{length}
use Rattle.reach_slots.proofs.Nets.{net-total, net-summable, net-fileable, net-slotted, own-filed, regrouped, in_row, slots-regrouped, reach-regrouped}
use Rattle.reach.proofs.reaches.Goals as goal

pub overflow_cast-slots : goal.overflow_cast-slots
overflow_cast-slots c =
    let (es, g, f, m) = c.requires.given in
    omega (arith, g.few)

pub lay_out-requires : goal.lay_out-requires
lay_out-requires c =
    let (es, g, f, m) = c.requires.given in
    let (er, ee, ea, ep, eo) = c.requires.reach_len in
    record {
      summable = net-summable g;
      counts_value = net-total g ∙ sym m;
      ends_len = (ee, ea);
    }

pub fill_slots-requires : goal.fill_slots-requires
fill_slots-requires c =
    let (es, g, f, m) = c.requires.given in
    let (er, ee, ea, ep, eo) = c.requires.reach_len in
    let l = c.lay_out.ensures in
    let w = (net-summable g).entries in
    record {
      counts_len_bound = rw w g.vertices;
      stops_len = (l.entries ∙ sym w, er ∙ sym w);
      consecutive = in_row g f;
      by_index = (_, _, es, own-filed g f, net-fileable (regrouped g f) l (slots-regrouped g f g m));
    }

pub count_overlaps-requires : goal.count_overlaps-requires
count_overlaps-requires c =
    let (es, g, f, m) = c.requires.given in
    let (er, ee, ea, ep, eo) = c.requires.reach_len in
    let l = c.lay_out.ensures in
    let e = slots-regrouped g f g m in
    let (filed, content, marked) = c.fill_slots.ensures _ _ es (own-filed g f) (net-fileable (regrouped g f) l e) in
    let k = c.fill_slots.auto in
    record {
      overlaps_len = (eo, k.stops ∙ l.entries, ep);
      by_index = (_, filed, _, net-slotted (regrouped g f) l e k.slots (k.first ∙ er) content marked);
    }

pub copy-requires : goal.copy-requires
copy-requires c =
    let (es, g, f, m) = c.requires.given in c.fill_slots.auto.first ∙ c.requires.reach_len.0 ∙ sym (net-summable g).entries

pub sum_reaches-requires : goal.sum_reaches-requires
sum_reaches-requires c =
    let (es, g, f, m) = c.requires.given in
    let (er, ee, ea, ep, eo) = c.requires.reach_len in
    let l = c.lay_out.ensures in
    let e = slots-regrouped g f g m in
    let (filed, content, marked) = c.fill_slots.ensures _ _ es (own-filed g f) (net-fileable (regrouped g f) l e) in
    let k = c.fill_slots.auto in
    let s = net-slotted (regrouped g f) l e k.slots (k.first ∙ er) content marked in
    let same = c.copy.ensures in record {
      summable = rw same (net-summable g);
      overlaps_len = c.count_overlaps.auto.overlaps ∙ eo;
      by_index = (reach_of c.args.parents.now (in_buckets es 0 (length c.args.bucket_ends.now)), rw same (c.count_overlaps.ensures _ filed _ s));
    }

pub returns : goal.returns
returns c =
    λ es g f.
    let (fs, h, _, m) = c.requires.given in
    let (er, ee, ea, ep, eo) = c.requires.reach_len in
    let l = c.lay_out.ensures in
    let e = slots-regrouped g f h m in
    let (filed, content, marked) = c.fill_slots.ensures _ _ es (own-filed g f) (net-fileable (regrouped g f) l e) in
    let k = c.fill_slots.auto in
    let s = net-slotted (regrouped g f) l e k.slots (k.first ∙ er) content marked in
    c.sum_reaches.ensures _ (rw c.copy.ensures (c.count_overlaps.ensures _ filed _ s)) ∙ reach-regrouped g f
