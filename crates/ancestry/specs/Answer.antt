-- What the call answers: how many vertices are above both, and the lowest of them.
--
-- Document 02, Paper 5: "its length is answered .. The lowest of the list is also answered by itself, or 'none' for an empty list."
-- Assumes nothing.
use Rattle.std.specs.Prelude.{List, [], ◌∷◌, ℕ, Option, None, Some, length}
use Rattle.game.specs.Game.{absent}
use Rattle.ancestry.specs.declared.Separator.{Separator}

abbrev pub separator : (count : ℕ) → Option ℕ → Separator
separator count lowest = record { count = count; lowest = lowest }

-- the lowest of a list that rises
unfoldable pub lowest_of : List ℕ → Option ℕ
lowest_of [] = None
lowest_of (y ∷ ys) = Some y

-- what is answered of a list
unfoldable pub separator_of : List ℕ → Separator
unfolding lowest_of
separator_of ys = separator (length ys) (lowest_of ys)

-- the lowest as one number, for languages that have no such type: absent for none
unfoldable pub lowest_rank : Option ℕ → ℕ
lowest_rank (Some y) = y
lowest_rank None = absent
