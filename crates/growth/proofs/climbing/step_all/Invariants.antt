use lib.ListN.{length, get_or}
use mathlib.Core.Path.{◌≡◌}
use mathlib.Core.List.{List, []}
use Rattle.game.specs.Edge.{Edge}
use Rattle.growth.specs.Growth.{Upward, Standing, Offers, Begun, new_parents, Untouched}
use Rattle.growth.specs.Moves.{Moves}
use Prim.Native.Nat.{ℕ, ◌≤◌}
use Rattle.growth.proofs.climbing.step_all.Given as goal

-- a climb is begun from each of the first i vertices of the bucket, for whatever graph the tables stand for; behind them it is as it was
pub record Turn (y : ℕ) (was before jumps : List ℕ) (moved : ℕ) (bucket p jump : List ℕ) (lowest i : ℕ) : Type 0 where
  pub same : length p ≡ length before
  pub upward : Upward (length before) jump
  pub long : length bucket ≡ length was
  pub inside : i ≤ length was
  pub ahead : (j : ℕ) → i ≤ j → get_or bucket j 0 ≡ get_or was j 0
  pub untouched : Untouched before jumps p jump
  pub moves : Moves before jumps moved p jump lowest
  pub begun : (E : List Edge) → Standing (length before) E y [] (new_parents before jumps) jumps → Offers E y was → Begun (length before) E y i was bucket (new_parents before jumps) (new_parents p jump) jump

abbrev pub invariant-loop-place : goal.invariant-loop-place
invariant-loop-place l = Turn l.y l.initial.bucket l.initial.parents l.initial.jump l.moved l.bucket l.parents l.jump l.lowest l.place-index
