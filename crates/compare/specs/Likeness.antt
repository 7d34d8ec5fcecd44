-- When two nets are the same: what document 01's refusal 23 asks, whether parents and loads are others than the net's.
-- Assumes nothing.
use Rattle.std.specs.Prelude.{Bool, true, false, ◌&&◌, List, [], ◌∷◌, ℕ, eqb}
use Rattle.game.specs.Net.{Net}

-- two tables with the same entries
unfoldable pub same_table : List ℕ → List ℕ → Bool
same_table [] [] = true
same_table [] (y ∷ ys) = false
same_table (x ∷ xs) [] = false
same_table (x ∷ xs) (y ∷ ys) = eqb x y && same_table xs ys

unfoldable pub same_net : Net → Net → Bool
same_net one other = same_table one.parents other.parents && same_table one.weights other.weights
