use mathlib.Core.List.{[]}
use Rattle.reach_slots.proofs.Summing.{Summed}
use Rattle.reach_slots.proofs.layout.sum_subtrees.Given as goal

abbrev pub invariant-loop-x : goal.invariant-loop-x
invariant-loop-x l =
    Summed l.parents l.initial.sums [] l.x l.sums
