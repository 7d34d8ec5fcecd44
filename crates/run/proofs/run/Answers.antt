use Rattle.std.proofs.Common.{rules}
use native.Mathlib.Omega.{arith}
use mathlib.Core.Path.{refl}
use Rattle.refusal.proofs.Numbers.{number-positive}
use Rattle.files.specs.Files.{limit, blocks}
use Rattle.run.proofs.Finished.{ends-refused, sizes-known, parts-runnable, limits-good, order-fits, order-counted, edges_fit, edges-counted, ends-accepted}
use Rattle.run.proofs.run.Goals as goal

pub returns-in-Err : goal.returns-in-Err
returns-in-Err c =
    let e = ends-refused c.in-Err.ensures (number-positive _) c.put_refused.ensures in
    record { text_after = e.0; text_unchanged = e.1.0; upper_bound = e.1.1 }

pub word_at-limit-requires : goal.word_at-limit-requires
word_at-limit-requires c = omega (arith, (sizes-known c.in-Ok.ensures refl).want)

pub word_at-blocks-requires : goal.word_at-blocks-requires
word_at-blocks-requires c = omega (arith, (sizes-known c.in-Ok.ensures refl).want)

pub slice_bounds-order-end : goal.slice_bounds-order-end
slice_bounds-order-end c =
    order-fits c.in-Ok.ensures refl c.load.auto.order

pub slice_bounds-divide-end : goal.slice_bounds-divide-end
slice_bounds-divide-end c =
    order-counted c.in-Ok.ensures refl c.load.auto.order

pub slice_bounds-edges-end : goal.slice_bounds-edges-end
slice_bounds-edges-end c =
    edges_fit c.in-Ok.ensures refl c.load.auto.edges

pub slice_bounds-divide-end-in-Ok : goal.slice_bounds-divide-end-in-Ok
slice_bounds-divide-end-in-Ok c =
    edges-counted c.in-Ok.ensures refl c.load.auto.edges

pub divide-requires : goal.divide-requires
unfolding limit blocks
divide-requires c =
    record {
      runnable = (parts-runnable c.in-Ok.ensures refl, limits-good c.in-Ok.ensures refl c.word_at-limit.ensures c.word_at-blocks.ensures);
      text_room_in_bounds = search rules;
    }

pub returns-in-Ok : goal.returns-in-Ok
unfolding limit blocks
returns-in-Ok c =
    let e = ends-accepted c.in-Ok.ensures refl c.word_at-limit.ensures c.word_at-blocks.ensures c.divide.ensures in
    record { text_after = e.0; text_unchanged = e.1.0; upper_bound = e.1.1 }
