-- What the functions that write parents promise each other of where they moved. No public contract cites this.
-- Assumes nothing.
use Rattle.std.specs.Prelude.{◌≡◌, ◌⊎◌, cond, List, ℕ, ◌≤◌, ◌<◌, min, eqb, length, get_or, Option, Some, None}
use Rattle.game.specs.Game.{absent}

-- the answer by the lowest rank that moved
unfoldable pub moved_at : ℕ → Option ℕ
moved_at r = cond (eqb r absent) None (Some r)

-- the lowest vertex that moved, of those so far and w, whose parent was old and is y
unfoldable pub moved_with : (moved w old y : ℕ) → ℕ
moved_with moved w old y = cond (eqb old y) moved (min moved w)

-- r is the lowest rank at which two tables of parents differ, absent if there is none
pub record Differ (was is : List ℕ) (r : ℕ) : Type 0 where
  pub same : (z : ℕ) → z < r → get_or is z absent ≡ get_or was z absent
  pub there : (r ≡ absent) ⊎ ((r < length was) × (get_or is r absent ≡ get_or was r absent → ⊥))

-- no parent has risen, and r is the lowest rank whose parent has fallen
pub record Fallen (was is : List ℕ) (r : ℕ) : Type 0 where
  pub long : length is ≡ length was
  pub falls : (z : ℕ) → get_or is z absent ≤ get_or was z absent
  pub differ : Differ was is r
