-- Where a forest moved. Document 02, Paper 2: "Let adding and joining answer with the lowest rank whose parent is now another, or with
-- 'none moved' if all are as before. A load alone that rises moves nothing."
-- Assumes nothing.
use Rattle.std.specs.Prelude.{cond, List, [], ◌∷◌, ℕ, suc, eqb, Option, Some, None}
use Rattle.game.specs.Game.{absent}
use Rattle.game.specs.Net.{Net}

-- the lowest rank at which two tables of parents differ, their first entries being rank i's
unfoldable pub moved_from : ℕ → (was is : List ℕ) → Option ℕ
moved_from i [] is = None
moved_from i (p ∷ was) [] = None
moved_from i (p ∷ was) (q ∷ is) = cond (eqb p q) (moved_from (suc i) was is) (Some i)

-- of a net before and after: the weights are not looked at
unfoldable pub moved : (was is : Net) → Option ℕ
unfolding moved_from
moved was is = moved_from 0 was.parents is.parents

-- the answer as one number, for languages that have no such type: absent, where none moved
unfoldable pub moved_rank : Option ℕ → ℕ
moved_rank (Some r) = r
moved_rank None = absent
