-- What a table of parents says: ancestors, subtrees, links, and the rule that keeps a table sound.
-- Assumes nothing.
use Rattle.std.specs.Prelude.{Bool, true, ◌&&◌, ◌||◌, cond, List, [], ◌∷◌, ℕ, zero, suc, eqb, ltb, length, get_or}
use Rattle.game.specs.Table.{member}
use Rattle.game.specs.Edge.{Edge, ◌─◌}
use Rattle.game.specs.Game.{absent}

-- the first k ancestors of x
unfoldable pub climb : ℕ → List ℕ → ℕ → List ℕ
climb zero p x = []
climb (suc k) p x =
    let y : ℕ = get_or p x absent in
    let rest : List ℕ = climb k p y in
    cond (ltb y (length p)) (y ∷ rest) []

-- "Above x means reached from x by one or more parents": the ancestors of x, nearest first
unfoldable pub ancestors : List ℕ → ℕ → List ℕ
unfolding climb
ancestors p x = climb (length p) p x

-- "Under x means x itself or having x above": u is in the subtree of x
unfoldable pub under : List ℕ → ℕ → ℕ → Bool
unfolding ancestors member
under p x u = eqb u x || member x (ancestors p u)

-- the links of a table whose first entry is rank i's: an edge from each rank to its parent
unfoldable pub links_from : ℕ → List ℕ → List Edge
links_from i [] = []
links_from i (q ∷ p) = cond (eqb q absent) (links_from (suc i) p) ((i ─ q) ∷ links_from (suc i) p)

unfoldable pub links : List ℕ → List Edge
unfolding links_from
links p = links_from 0 p

-- The rule of refusal 7: the parent of rank i is "absent" or "in rank+1 to n−1"
unfoldable pub sound_parent : ℕ → ℕ → ℕ → Bool
sound_parent n i q = eqb q absent || ltb i q && ltb q n

unfoldable pub sound_from : ℕ → ℕ → List ℕ → Bool
unfolding sound_parent
sound_from n i [] = true
sound_from n i (q ∷ p) = sound_parent n i q && sound_from n (suc i) p

unfoldable pub sound : List ℕ → Bool
unfolding sound_from
sound p = sound_from (length p) 0 p
