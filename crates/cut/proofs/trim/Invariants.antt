use Prim.Native.Nat.{◌-◌}
use Rattle.game.specs.Game.{absent}
use Rattle.cut.proofs.Turns.{Turn, Scanning, turns_left}
use Rattle.cut.proofs.trim.Given as goal

abbrev pub invariant-loop-child : goal.invariant-loop-child
invariant-loop-child l =
    Scanning l.next l.carried l.link l.x l.floor l.first l.most l.start l.heaviest l.found l.child

abbrev pub decreases-loop-child : goal.decreases-loop-child
decreases-loop-child l =
    absent - l.child

abbrev pub invariant-cut : goal.invariant-cut
invariant-cut l =
    Turn l.x l.weight l.limit l.floor l.first l.next l.carried l.initial.link l.link l.uncut l.most l.start

abbrev pub decreases-cut : goal.decreases-cut
decreases-cut l =
    turns_left l.link l.x l.first l.start
