-- Edges between vertices, and ties: edges with their rows. Vertices are named by their rank, their place in the elimination order, from 0.
--
-- Document 01: "A tie is an unordered pair of two ranks. Ties may repeat." Document 02, Paper 6: "A tie record gains a third 32-bit number,
-- its rows, and tie lists carry three numbers to a tie". Here the pair is an edge, and a tie is an edge with its rows. Forests and reaches
-- go by edges alone. The data keeps the ends in the order in which they were written; no definition looks at that order.
-- Assumes nothing.
use Rattle.std.specs.Prelude.{Bool, ◌||◌, List, [], ◌∷◌, map, ℕ, min, max, eqb}

infix 60 ◌─◌
-- an edge between two vertices
pub data Edge : Type 0 where
  ◌─◌ : ℕ → ℕ → Edge

-- its two ends by rank
unfoldable pub lower : Edge → ℕ
lower (a ─ b) = min a b

unfoldable pub upper : Edge → ℕ
upper (a ─ b) = max a b

-- x is an end of the edge
unfoldable pub touches : ℕ → Edge → Bool
touches x (a ─ b) = eqb a x || eqb b x

-- a tie: an edge and its rows
pub record Tie : Type 0 where
  pub edge : Edge
  pub rows : ℕ

abbrev pub tie_of : Edge → ℕ → Tie
tie_of edge rows = record { edge = edge; rows = rows }

-- the edges of ties, without their rows
abbrev pub without_rows : List Tie → List Edge
without_rows ts = map (λ (t : Tie). t.edge) ts

-- the numbers to a tie in a flat list
abbrev pub stride : ℕ
stride = 3

-- a flat list read as ties; one or two last numbers that make no tie are left out
unfoldable pub ties : List ℕ → List Tie
ties [] = []
ties (a ∷ []) = []
ties (a ∷ b ∷ []) = []
ties (a ∷ b ∷ rows ∷ xs) = tie_of (a ─ b) rows ∷ ties xs

-- the same list read as edges
unfoldable pub edges : List ℕ → List Edge
unfolding ties
edges xs = without_rows (ties xs)
