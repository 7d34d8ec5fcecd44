-- Which parents growing has moved: what the private functions that write them promise each other. No public contract cites this.
--
-- A vertex that has no jump yet has its old parent; where it is linked, and never again, its new parent is seen beside the old one.
-- Assumes nothing.
use Rattle.std.specs.Prelude.{◌≡◌, List, ℕ, length, get_or}
use Rattle.game.specs.Game.{absent}
use Rattle.moved.specs.Steps.{Differ}

-- m is the lowest vertex that moved since the parents were `was`; vertices without a jump have not
pub record Tracks (was p jump : List ℕ) (m : ℕ) : Type 0 where
  pub long : length p ≡ length was
  pub untouched : (z : ℕ) → get_or jump z absent ≡ absent → get_or p z absent ≡ get_or was z absent
  pub differ : Differ was p m

-- what a step of growing promises: from the lowest that moved before it, the lowest that moved after it
pub record Moves (p jump : List ℕ) (m : ℕ) (p' jump' : List ℕ) (m' : ℕ) : Type 0 where
  pub tracks : (was : List ℕ) → Tracks was p jump m → Tracks was p' jump' m'
