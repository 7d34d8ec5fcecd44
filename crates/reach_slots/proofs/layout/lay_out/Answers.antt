use Rattle.std.proofs.Common.{rules}
use mathlib.Core.Path.{ap, ◌∙◌}
use Rattle.game.specs.Table.{sum as total}
use Rattle.reach_slots.proofs.layout.lay_out.Goals as goal

pub sum_subtrees-requires : goal.sum_subtrees-requires
sum_subtrees-requires c = rw c.copy.ensures c.requires.summable

pub place_subtrees-requires : goal.place_subtrees-requires
place_subtrees-requires c =
    let e = ap total c.copy.ensures ∙ c.requires.counts_value in
    let st = rw e at c.sum_subtrees.ensures in
    record {
      ends_len = search rules;
      by_index = (_, st);
    }

pub returns : goal.returns
returns c =
    let e = ap total c.copy.ensures ∙ c.requires.counts_value in
    let st = rw e at c.sum_subtrees.ensures in
    rw c.copy.ensures at (c.place_subtrees.ensures _ st)
