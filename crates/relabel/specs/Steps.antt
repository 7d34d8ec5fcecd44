-- Ties looked up in a table: the way from vertex numbers to ranks once the order is inverted. No public contract cites this.
-- Assumes nothing.
use Rattle.std.specs.Prelude.{◌≡◌, List, [], ◌∷◌, ℕ, ◌%◌, length, get_or}
use Rattle.game.specs.Edge.{ties, stride}
use Rattle.refusal.specs.Refusal.{first_fault}

-- a flat list of ties, with the two ends of each replaced by the table's entries at them
unfoldable pub looked_up : List ℕ → List ℕ → List ℕ
looked_up table [] = []
looked_up table (a ∷ []) = a ∷ []
looked_up table (a ∷ b ∷ []) = a ∷ b ∷ []
looked_up table (a ∷ b ∷ rows ∷ xs) = get_or table a 0 ∷ get_or table b 0 ∷ rows ∷ looked_up table xs

-- what looking up is given: whole ties whose ends have entries in the table, and room for as many numbers
pub record LookUp (table xs out : List ℕ) : Type 0 where
  pub all : length xs % stride ≡ 0
  pub faultless : first_fault (length table) (ties xs) ≡ 0
  pub room : length out ≡ length xs
