-- What private functions of this crate promise each other. No public promise speaks of it.
-- Assumes nothing.
use Rattle.std.specs.Prelude.{Bool, false, ◌||◌, List, [], ◌∷◌, ℕ, eqb, leb}
use Rattle.game.specs.Edge.{Edge, ◌─◌, Tie}
use Rattle.refusal.specs.Limits.{max_rows, outside}

-- whether an edge has a fault, whether a tie has, and whether one of a list has
unfoldable pub is_faulty_edge : ℕ → Edge → Bool
is_faulty_edge n (a ─ b) = leb n a || leb n b || eqb a b

unfoldable pub is_faulty : ℕ → Tie → Bool
is_faulty n t = is_faulty_edge n t.edge || outside max_rows t.rows

unfoldable pub some_fault : ℕ → List Tie → Bool
some_fault n [] = false
some_fault n (t ∷ ts) = is_faulty n t || some_fault n ts
