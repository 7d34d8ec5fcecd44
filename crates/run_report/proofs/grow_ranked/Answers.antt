use Rattle.std.proofs.Common.{rules}
use Prim.Native.Nat.{◌+◌}
use Rattle.game.proofs.Edges.{edges-length}
use Rattle.files.specs.Files.{vertex_capacity, edge_capacity}
use Rattle.run_report.proofs.Growing.{all_grown}
use Rattle.run_report.proofs.Zeroed.{part-counted, both-fit, grow-work}
use Rattle.run_report.proofs.grow_ranked.Goals as goal

pub overflow_add-both : goal.overflow_add-both
overflow_add-both c = search (rules, c.count.ensures, edges-length c.args.edges.now)

pub slice_bounds-relabel-end : goal.slice_bounds-relabel-end
slice_bounds-relabel-end c = part-counted vertex_capacity _ c.requires.runnable.vertices

pub slice_bounds-add-end : goal.slice_bounds-add-end
slice_bounds-add-end c = part-counted vertex_capacity _ c.requires.runnable.vertices

pub slice_bounds-add-end-2 : goal.slice_bounds-add-end-2
slice_bounds-add-end-2 c =
    part-counted vertex_capacity _
    c.requires.runnable.vertices

pub slice_bounds-lower-end : goal.slice_bounds-lower-end
slice_bounds-lower-end c =
    both-fit c.requires.runnable c.count.ensures

pub slice_bounds-add-end-3 : goal.slice_bounds-add-end-3
slice_bounds-add-end-3 c =
    part-counted (vertex_capacity + edge_capacity) _ (both-fit c.requires.runnable c.count.ensures)

pub returns : goal.returns
returns c =
    all_grown c.requires.runnable c.requires.grow_room (grow-work c.requires.runnable c.count.ensures) c.relabel.ensures c.start.ensures c.add.ensures
