use Rattle.std.proofs.Common.{rules}
use Prim.Native.Nat.{◌+◌}
use Rattle.game.proofs.Edges.{edges-length}
use Rattle.refusal.specs.DivisionLimits.{max_blocks}
use Rattle.files.specs.Files.{vertex_capacity, edge_capacity}
use Rattle.run_report.proofs.Zeroed.{part-counted, blocks-fit, edges_fit, sum_fits, report-room}
use Rattle.run_report.proofs.Reporting.{text-room, columns, put-prints}
use Rattle.run_report.proofs.report_on.Goals as goal

pub overflow_add-both : goal.overflow_add-both
overflow_add-both c = search (rules, c.count-m.ensures, edges-length c.args.ranked.now)

pub slice_bounds-block_loads-end : goal.slice_bounds-block_loads-end
slice_bounds-block_loads-end c = blocks-fit _ _ c.requires.ready.limits

pub slice_bounds-division-end-4 : goal.slice_bounds-division-end-4
slice_bounds-division-end-4 c = part-counted max_blocks _ (blocks-fit _ _ c.requires.ready.limits)

pub slice_bounds-edge_blocks-end : goal.slice_bounds-edge_blocks-end
slice_bounds-edge_blocks-end c = edges_fit c.requires.ready c.count-m.ensures

pub slice_bounds-figures-end : goal.slice_bounds-figures-end
slice_bounds-figures-end c = part-counted edge_capacity _ (edges_fit c.requires.ready c.count-m.ensures)

pub slice_bounds-lower-end : goal.slice_bounds-lower-end
slice_bounds-lower-end c = sum_fits c.requires.ready c.count-m.ensures

pub slice_bounds-report-end-5 : goal.slice_bounds-report-end-5
slice_bounds-report-end-5 c = part-counted (vertex_capacity + edge_capacity) _ (sum_fits c.requires.ready c.count-m.ensures)

pub put_answer-requires : goal.put_answer-requires
put_answer-requires c =
    record {
      columns = columns c.requires.ready (report-room c.requires.ready c.count-m.ensures) c.report-answer.ensures.outcome;
      totals_room_in_bounds = text-room
          c.requires.ready _ c.requires.text_room_in_bounds;
    }

pub returns : goal.returns
returns c = put-prints c.requires.ready (report-room c.requires.ready c.count-m.ensures) c.report-answer.ensures.outcome c.put_answer.ensures
