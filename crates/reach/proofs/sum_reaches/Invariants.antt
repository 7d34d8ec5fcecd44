use Rattle.reach_slots.proofs.Summing.{Summed}
use Rattle.reach.proofs.sum_reaches.Given as goal

abbrev pub invariant-loop-x : goal.invariant-loop-x
invariant-loop-x l =
    Summed l.parents l.initial.reach l.overlaps l.x l.reach
