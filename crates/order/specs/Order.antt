-- An elimination order: a permutation of the vertices, and its inverse, their ranks.
--
-- Document 01: "An order lists the mark numbers 0 to n−1, lowest first. A mark's rank is its place there, from 0." A mark number is
-- a vertex number here.
-- Assumes nothing.
use Rattle.std.specs.Prelude.{Bool, false, ◌||◌, cond, List, [], ◌∷◌, ℕ, suc, eqb, leb, length}
use Rattle.game.specs.Table.{tabulate, member}

-- some entry is n or more, or stands again after itself
unfoldable pub bad_entry : ℕ → List ℕ → Bool
unfolding member
bad_entry n [] = false
bad_entry n (v ∷ vs) = leb n v || (member v vs || bad_entry n vs)

-- 3: "an order entry is n or more, or repeats"
unfoldable pub bad_order : List ℕ → Bool
unfolding bad_entry
bad_order order = bad_entry (length order) order

-- the rank of a vertex: the first place at which its number stands in the order, or the order's length if it stands nowhere
unfoldable pub rank_of : List ℕ → ℕ → ℕ
rank_of [] v = 0
rank_of (w ∷ ws) v = cond (eqb v w) 0 (suc (rank_of ws v))

-- the ranks of the vertices by number
unfoldable pub inverse_of : List ℕ → List ℕ
unfolding tabulate rank_of
inverse_of order = tabulate (length order) (rank_of order)
