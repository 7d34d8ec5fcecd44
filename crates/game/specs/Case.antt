-- Document 01, "Whole case": its net and its ties, by rank, one row to a tie. The tables that are computed of dividing, reporting and
-- separating go by it.
-- Assumes nothing.
use Rattle.std.specs.Prelude.{◌≡◌, refl, List, [], ◌∷◌, ℕ}
use Rattle.game.specs.Edge.{ties}
use Rattle.game.specs.Game.{absent}
use Rattle.game.specs.Net.{Net, net, net_of}

unfoldable pub whole : Net
whole = net (2 ∷ 3 ∷ 4 ∷ 4 ∷ 5 ∷ absent ∷ []) (3 ∷ 2 ∷ 1 ∷ 0 ∷ 0 ∷ 0 ∷ [])

unfoldable pub own : List ℕ
own = 0 ∷ 2 ∷ 1 ∷ 0 ∷ 4 ∷ 1 ∷ 1 ∷ 3 ∷ 1 ∷ 1 ∷ 4 ∷ 1 ∷ 2 ∷ 5 ∷ 1 ∷ 2 ∷ 0 ∷ 1 ∷ []

-- another list, whose last tie leads from 1, not from 0, and the net of it
unfoldable pub other : List ℕ
other = 0 ∷ 2 ∷ 1 ∷ 0 ∷ 4 ∷ 1 ∷ 1 ∷ 3 ∷ 1 ∷ 1 ∷ 4 ∷ 1 ∷ 2 ∷ 5 ∷ 1 ∷ 2 ∷ 1 ∷ 1 ∷ []

unfoldable pub others : Net
others = net (2 ∷ 2 ∷ 3 ∷ 4 ∷ 5 ∷ absent ∷ []) (2 ∷ 3 ∷ 1 ∷ 0 ∷ 0 ∷ 0 ∷ [])

-- they are the nets of the lists
pub nets : (net_of 6 (ties own) ≡ whole) × (net_of 6 (ties other) ≡ others)
unfolding whole own other others net_of ties
nets = (refl, refl)
