-- The elimination game, as published (document 000, section 4.1).
--
-- Document 01, Forest: "eliminate ranks upward. At x, let S be the higher neighbours of x, added ones included; make all of S
-- neighbours of each other; the parent of x is the lowest of S, or none if S is empty."
-- S is kept free of repeats, so that the game can be computed. Nothing here knows of any quicker way to the same forest.
-- Assumes nothing.
use Rattle.std.specs.Prelude.{Bool, not, ◌&&◌, cond, List, [], ◌∷◌, ◌++◌, map, ℕ, zero, suc, min, eqb, ltb}
use Rattle.game.specs.Table.{tabulate, member}
use Rattle.game.specs.Edge.{Edge, ◌─◌}

-- "no parent is FFFFFFFF hexadecimal": it stands above every rank
abbrev pub absent : ℕ
absent = 4294967295

-- v put in front of s if the test holds, unless s has it
unfoldable pub include : Bool → ℕ → List ℕ → List ℕ
unfolding member
include t v s = cond (t && not (member v s)) (v ∷ s) s

-- S: the higher neighbours of x in the graph g, each once
unfoldable pub higher : ℕ → List Edge → List ℕ
unfolding include
higher x [] = []
higher x ((a ─ b) ∷ g) = include (eqb a x && ltb x b) b (include (eqb b x && ltb x a) a (higher x g))

-- all of s made neighbours of each other
unfoldable pub clique : List ℕ → List Edge
clique [] = []
clique (v ∷ s) = map (λ (w : ℕ). v ─ w) s ++ clique s

-- the graph once the ranks below x are eliminated
unfoldable pub filled : List Edge → ℕ → List Edge
unfolding higher clique
filled g zero = g
filled g (suc x) = let h : List Edge = filled g x in clique (higher x h) ++ h

-- the lowest of s, or absent
unfoldable pub lowest : List ℕ → ℕ
lowest [] = absent
lowest (v ∷ s) = min v (lowest s)

unfoldable pub parent : List Edge → ℕ → ℕ
unfolding lowest higher filled
parent g x = lowest (higher x (filled g x))

-- the elimination forest of the graph g on n vertices: the table of parents
unfoldable pub forest : ℕ → List Edge → List ℕ
unfolding tabulate parent
forest n g = tabulate n (parent g)
