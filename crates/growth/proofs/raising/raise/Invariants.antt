use mathlib.Core.Path.{◌≡◌}
use mathlib.Core.List.{List}
use lib.ListN.{length}
use Rattle.game.specs.Edge.{Edge}
use Rattle.game.specs.Game.{absent}
use Rattle.game.specs.Graph.{Proper}
use mathlib.Core.Bool.{Bool}
use Rattle.sorting.specs.Sorted.{begin}
use Rattle.bucket.specs.Filed.{Filed}
use Rattle.growth.specs.Growth.{Upward, Raised, ReadUpTo, new_parents, Untouched}
use Rattle.growth.specs.Moves.{Moves}
use Rattle.growth.proofs.Flags.{is_set}
use Prim.Native.Nat.{ℕ, ◌≤◌}
use Rattle.growth.proofs.raising.raise.Given as goal

-- the vertices below y are raised, for whatever graph is filed
pub record Turn (keep : Bool) (ends was before jumps lower p jump : List ℕ) (moved at y : ℕ) : Type 0 where
  pub same : length p ≡ length ends
  pub upward : Upward (length ends) jump
  pub within : y ≤ length ends
  pub start : at ≡ begin ends y
  pub reading : ReadUpTo keep was at lower
  pub untouched : Untouched before jumps p jump
  pub moves : Moves before jumps absent p jump moved
  pub raised : (E : List Edge) → Proper (length ends) E → Filed (length ends) E ends was → Raised (length ends) E y (new_parents p jump) jump

abbrev pub invariant-loop-y : goal.invariant-loop-y
invariant-loop-y g l = Turn (is_set g.row.KEEP) l.ends l.initial.lower l.initial.parents l.initial.jump l.lower l.parents l.jump l.moved l.at l.y
