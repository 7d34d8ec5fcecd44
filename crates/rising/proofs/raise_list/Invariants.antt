use mathlib.Core.Path.{◌≡◌}
use mathlib.Core.List.{List}
use Prim.Native.Nat.{ℕ}
use lib.ListN.{length}
use Rattle.game.specs.Edge.{Tie, edges as edges_of, ties as ties_of}
use Rattle.game.specs.Game.{absent}
use Rattle.edge.specs.Tie.{ties_left}
use Rattle.bucket.specs.Ends.{weighed}
use Rattle.bucket.proofs.Charging.{Charging}
use Rattle.growth.specs.Growth.{Upward, Untouched, new_parents}
use Rattle.growth.specs.Moves.{Moves}
use Rattle.rising.proofs.Taking.{Taking}
use Rattle.rising.proofs.raise_list.Given as goal

-- all ties but those that are left are taken in and weighed
pub record Turn (xs weights₀ before jumps : List ℕ) (left : List Tie) (weights p jump : List ℕ) (moved : ℕ) : Type 0 where
  pub same : length p ≡ length before
  pub upward : Upward (length before) jump
  pub untouched : Untouched before jumps p jump
  pub moves : Moves before jumps absent p jump moved
  pub charging : Charging (length before) left weights (weighed (ties_of xs) weights₀)
  pub taking : Taking (length before) (edges_of xs) left (new_parents p jump) jump

abbrev pub invariant-loop-tie : goal.invariant-loop-tie
invariant-loop-tie l = Turn l.edges l.initial.weights l.initial.parents l.initial.jump (ties_left l.tie-iterator) l.weights l.parents l.jump l.moved
