use Rattle.std.proofs.Common.{rules}
use mathlib.Core.Path.{ap, ◌∙◌}
use Prim.Native.Nat.{◌*◌}
use native.Mathlib.Omega.{arith}
use Rattle.game.specs.Edge.{ties}
use Rattle.game.proofs.Edges.{edges-length}
use Rattle.edge.proofs.Splitting.{ties-behind, part-behind}
use Rattle.edge.proofs.from.Goals as goal

pub overflow_mul-result : goal.overflow_mul-result
overflow_mul-result c = search (rules, edges-length c.args.list.now)

pub offset_bounds-list-i : goal.offset_bounds-list-i
offset_bounds-list-i c = search (rules, edges-length c.args.list.now)

pub slice_bounds-result-count : goal.slice_bounds-result-count
slice_bounds-result-count c = omega (arith, edges-length c.args.list.now, c.requires)

pub returns : goal.returns
returns c =
    let a = c.args in
    ap ties (part-behind a.list.now (3 * a.i)) ∙ ties-behind a.list.now a.i c.requires

pub slice_bounds-result-start : goal.slice_bounds-result-start
slice_bounds-result-start c = omega (arith, edges-length c.args.list.now, c.requires)
