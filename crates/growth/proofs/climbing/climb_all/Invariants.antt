use lib.ListN.{drop, length}
use mathlib.Core.Path.{◌≡◌}
use mathlib.Core.List.{List}
use Rattle.game.specs.Edge.{Edge}
use mathlib.Core.Bool.{Bool}
use Rattle.growth.specs.Growth.{Upward, Standing, Offers, Climbed, ReadUpTo, new_parents, Untouched}
use Rattle.growth.specs.Moves.{Moves}
use Rattle.growth.proofs.Flags.{is_set}
use Prim.Native.Nat.{ℕ}
use Rattle.growth.proofs.climbing.climb_all.Given as goal

-- the climbs from the first i vertices are made, for whatever graph the tables stand for
pub record Turn (y : ℕ) (keep : Bool) (was before jumps : List ℕ) (moved : ℕ) (vertices p jump : List ℕ) (lowest i : ℕ) : Type 0 where
  pub same : length p ≡ length before
  pub upward : Upward (length before) jump
  pub reading : ReadUpTo keep was i vertices
  pub untouched : Untouched before jumps p jump
  pub moves : Moves before jumps moved p jump lowest
  pub climbed : (E : List Edge) → Standing (length before) E y was (new_parents before jumps) jumps → Offers E y was → Climbed (length before) E y was (drop i was) (new_parents before jumps) (new_parents p jump) jump

abbrev pub invariant-loop-place : goal.invariant-loop-place
invariant-loop-place g l = Turn l.y (is_set g.row.KEEP) l.initial.vertices l.initial.parents l.initial.jump l.moved l.vertices l.parents l.jump l.lowest l.place-index
