use mathlib.Core.Path.{◌≡◌}
use Prim.Native.Nat.{ℕ}
use lib.ListN.{length}
use mathlib.Core.List.{List}
use Rattle.game.specs.Edge.{Edge}
use Rattle.reach_slots.specs.Visit.{Slotted, Empty}
use Rattle.reach_slots.proofs.Visiting.{Counting}
use Rattle.reach_slots.proofs.overlap.visit.Given as goal

abbrev pub invariant-loop-k : goal.invariant-loop-k
invariant-loop-k l =
    (length l.ancestor ≡ length l.initial.ancestor) × (length l.previous ≡ length l.initial.previous) × (length l.overlaps ≡ length l.initial.overlaps)
    × ((p : List ℕ) (es : List Edge) (filed stops : List ℕ) → Slotted p l.counts es filed stops l.ends l.first l.slots → Empty p l.ends l.initial.ancestor l.initial.previous l.initial.overlaps
    → Counting p l.counts es filed stops l.ends l.first l.slots l.ancestor l.previous l.overlaps l.k l.u l.stop)
