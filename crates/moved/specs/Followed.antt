-- What a viewer may go by, who holds the parents of a net as they were before a call and is told where the forest moved: it rereads the
-- table from there on, and misses nothing.
-- Assumes nothing.
use Rattle.std.specs.Prelude.{◌≡◌, Bool, true, List, ◌++◌, ℕ, ◌≤◌, ◌<◌, min, ltb, get_or, take, drop, Option, Some, None}
use Rattle.game.specs.Game.{absent}

-- the ranks below where the forest moved: all, if it did not
unfoldable pub below_moved : Option ℕ → ℕ → Bool
below_moved (Some r) x = ltb x r
below_moved None x = true

-- the old table, reread from there on
unfoldable pub reread : Option ℕ → (was is : List ℕ) → List ℕ
reread (Some r) was is = take r was ++ drop r is
reread None was is = was

-- the lower of two answers: where the forest moved in two calls, one after the other
unfoldable pub lower_of : Option ℕ → Option ℕ → Option ℕ
lower_of (Some r) (Some s) = Some (min r s)
lower_of (Some r) None = Some r
lower_of None m = m

-- of the parents before a call and after it
pub record Followed (m : Option ℕ) (was is : List ℕ) : Type 0 where
  -- parents only fall, absent being the highest
  pub falls : (x : ℕ) → get_or is x absent ≤ get_or was x absent
  pub kept : (x : ℕ) → below_moved m x ≡ true → get_or is x absent ≡ get_or was x absent
  pub moves : (x : ℕ) → m ≡ Some x → get_or is x absent < get_or was x absent
  pub whole : reread m was is ≡ is
