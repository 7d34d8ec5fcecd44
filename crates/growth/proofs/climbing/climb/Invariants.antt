use mathlib.Core.Path.{◌≡◌}
use Prim.Native.Nat.{ℕ, ◌-◌}
use mathlib.Core.List.{List, ◌∷◌}
use lib.ListN.{length}
use Rattle.game.specs.Edge.{Edge}
use Rattle.game.proofs.Conn.{Conn}
use Rattle.growth.specs.Growth.{Upward, Standing, Climbing, new_parents, Untouched}
use Rattle.growth.specs.Moves.{Moves}
use Rattle.growth.proofs.climbing.climb.Given as goal

-- where the climb stands, for whatever graph the tables stand for
pub record Turn (u y : ℕ) (was jumps : List ℕ) (moved : ℕ) (p jump : List ℕ) (w lowest : ℕ) : Type 0 where
  pub same : length p ≡ length was
  pub upward : Upward (length was) jump
  pub untouched : Untouched was jumps p jump
  pub moves : Moves was jumps moved p jump lowest
  pub climbing : (E : List Edge) (ws : List ℕ) → Standing (length was) E y (u ∷ ws) (new_parents was jumps) jumps → Conn E y u y → Climbing (length was) E y u w ws (new_parents was jumps) (new_parents p jump) jump

abbrev pub invariant-loop-w : goal.invariant-loop-w
invariant-loop-w l = Turn l.u l.y l.initial.parents l.initial.jump l.moved l.parents l.jump l.w l.lowest

abbrev pub decreases-loop-w : goal.decreases-loop-w
decreases-loop-w l = l.y - l.w
