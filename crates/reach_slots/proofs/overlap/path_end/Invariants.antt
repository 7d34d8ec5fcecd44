use mathlib.Core.Path.{◌≡◌}
use Prim.Native.Nat.{ℕ, ◌-◌, ◌<◌}
use lib.ListN.{length}
use mathlib.Core.List.{List}
use Rattle.reach_slots.specs.Jumps.{Jumps, Under}
use Rattle.reach_slots.proofs.Climbing.{Stands}
use Rattle.reach_slots.proofs.overlap.path_end.Given as goal

abbrev pub invariant-loop-ancestor : goal.invariant-loop-ancestor
invariant-loop-ancestor l =
    (length l.ancestor ≡ length l.initial.ancestor) × (length l.ends ≡ length l.ancestor) × (l.r < length l.ends)
    × ((p : List ℕ) → Jumps p l.ends l.initial.ancestor l.k → Under p l.ends l.k l.v l.y → Stands p l.ends l.ancestor l.k l.v l.y l.r)

abbrev pub decreases-loop-ancestor : goal.decreases-loop-ancestor
decreases-loop-ancestor l = length l.ends - l.r
