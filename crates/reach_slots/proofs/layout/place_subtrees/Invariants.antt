use Prim.Native.Nat.{ℕ}
use mathlib.Core.List.{List}
use Rattle.reach_slots.specs.Balance.{entry_of, Subtrees}
use Rattle.reach_slots.proofs.Placing.{Stage, PlaceTables}
use Rattle.reach_slots.proofs.layout.place_subtrees.Given as goal

abbrev pub invariant-loop-x : goal.invariant-loop-x
invariant-loop-x l =
    PlaceTables l.parents l.initial.ends l.ends l.stops l.x × ((w : List ℕ) → Subtrees l.parents w (entry_of l.initial.ends) l.total → Stage l.parents w l.initial.ends l.ends l.stops l.total l.x l.top)

abbrev pub decreases-loop-x : goal.decreases-loop-x
decreases-loop-x l = l.x
