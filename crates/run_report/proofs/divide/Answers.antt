use Rattle.files.specs.Files.{vertex_capacity}
use Rattle.files.specs.Steps.{number_capacity}
use Rattle.run_report.proofs.Zeroed.{part-counted, front_fits, front-is, front-counted, numbers_fit, grow-room}
use Rattle.run_report.proofs.Dividing.{grown-again, to-report, put-ranked}
use Rattle.run_report.proofs.divide.Goals as goal

pub slice_bounds-ranked-end : goal.slice_bounds-ranked-end
slice_bounds-ranked-end c = numbers_fit c.requires.runnable.0

pub slice_bounds-grow_ranked-end : goal.slice_bounds-grow_ranked-end
slice_bounds-grow_ranked-end c = part-counted number_capacity _ (numbers_fit c.requires.runnable.0)

pub slice_bounds-grow_ranked-end-2 : goal.slice_bounds-grow_ranked-end-2
slice_bounds-grow_ranked-end-2 c = part-counted vertex_capacity _ c.requires.runnable.0.vertices

pub slice_bounds-grow_ranked-end-3 : goal.slice_bounds-grow_ranked-end-3
slice_bounds-grow_ranked-end-3 c = part-counted vertex_capacity _ c.requires.runnable.0.vertices

pub grow_ranked-requires : goal.grow_ranked-requires
grow_ranked-requires c =
    record {
      runnable = c.requires.runnable.0;
      grow_room = grow-room c.requires.runnable.0;
    }

pub slice_bounds-ranked-end-2 : goal.slice_bounds-ranked-end-2
slice_bounds-ranked-end-2 c =
    front_fits number_capacity _ (numbers_fit c.requires.runnable.0) c.grow_ranked.new.ranked c.grow_ranked.auto.ranked

pub slice_bounds-report_on-end : goal.slice_bounds-report_on-end
slice_bounds-report_on-end c =
    front-counted number_capacity _ (numbers_fit c.requires.runnable.0) c.grow_ranked.new.ranked c.grow_ranked.auto.ranked

pub slice_bounds-parents-end-2 : goal.slice_bounds-parents-end-2
slice_bounds-parents-end-2 c =
    front_fits vertex_capacity _ c.requires.runnable.0.vertices c.grow_ranked.new.parents c.grow_ranked.auto.parents

pub slice_bounds-report_on-end-2 : goal.slice_bounds-report_on-end-2
slice_bounds-report_on-end-2 c =
    front-counted vertex_capacity _ c.requires.runnable.0.vertices c.grow_ranked.new.parents c.grow_ranked.auto.parents

pub slice_bounds-weights-end-2 : goal.slice_bounds-weights-end-2
slice_bounds-weights-end-2 c =
    front_fits vertex_capacity _ c.requires.runnable.0.vertices c.grow_ranked.new.weights c.grow_ranked.auto.weights

pub slice_bounds-report_on-end-3 : goal.slice_bounds-report_on-end-3
slice_bounds-report_on-end-3 c =
    front-counted vertex_capacity _ c.requires.runnable.0.vertices c.grow_ranked.new.weights c.grow_ranked.auto.weights

pub report_on-requires : goal.report_on-requires
report_on-requires c =
    record {
      ready = to-report c.requires.runnable.0 (grown-again c.grow_ranked.ensures
          (front-is number_capacity _ (numbers_fit c.requires.runnable.0) c.grow_ranked.new.ranked c.grow_ranked.auto.ranked)
          (front-is vertex_capacity _ c.requires.runnable.0.vertices c.grow_ranked.new.parents c.grow_ranked.auto.parents)
          (front-is vertex_capacity _ c.requires.runnable.0.vertices c.grow_ranked.new.weights c.grow_ranked.auto.weights)) c.requires.runnable.1;
      text_room_in_bounds = c.requires.text_room_in_bounds;
    }

pub returns : goal.returns
returns c =
    put-ranked c.requires.runnable.0 (grown-again c.grow_ranked.ensures
    (front-is number_capacity _ (numbers_fit c.requires.runnable.0) c.grow_ranked.new.ranked c.grow_ranked.auto.ranked)
    (front-is vertex_capacity _ c.requires.runnable.0.vertices c.grow_ranked.new.parents c.grow_ranked.auto.parents)
    (front-is vertex_capacity _ c.requires.runnable.0.vertices c.grow_ranked.new.weights c.grow_ranked.auto.weights)) _ _
    c.report_on.ensures
