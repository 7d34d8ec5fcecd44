-- Where the forest moves on document 01's lines: computed from the definitions as one table.
-- Assumes nothing.
use Rattle.std.specs.Prelude.{◌≡◌, refl, List, [], ◌∷◌, ◌++◌, map, ℕ, Option, Some, None}
use Rattle.game.specs.Edge.{Edge, ◌─◌, Tie, tie_of}
use Rattle.game.specs.Game.{forest}
use Rattle.game.specs.Tree.{links}
use Rattle.game.specs.Net.{net_of}
use Rattle.moved.specs.Moved.{moved}

-- ties of one row each
abbrev once : List Edge → List Tie
once es = map (λ (e : Edge). tie_of e 1) es

-- the net of a list on n vertices, with further edges or another net's links taken in
added : ℕ → List Edge → List Edge → Option ℕ
added n es more = moved (net_of n (once es)) (net_of n (once (es ++ more)))

pub computed : List (Option ℕ)
computed =
    -- P5, then 0-1 added (P6) or joined (P7)
    added 3 ((0 ─ 2) ∷ []) ((0 ─ 1) ∷ [])
    ∷ added 3 ((0 ─ 2) ∷ []) (links (forest 3 ((0 ─ 1) ∷ [])))
    -- P10: a repeated edge raises a weight alone
    ∷ added 3 ((0 ─ 1) ∷ []) ((0 ─ 1) ∷ [])
    -- P2, with an edge between its ends that has no new link; and P4, with one that moves rank 1
    ∷ added 3 ((0 ─ 1) ∷ (1 ─ 2) ∷ []) ((0 ─ 2) ∷ [])
    ∷ added 4 ((0 ─ 3) ∷ (1 ─ 3) ∷ (2 ─ 3) ∷ []) ((1 ─ 2) ∷ [])
    ∷ []

pub example : computed ≡ Some 0 ∷ Some 0 ∷ None ∷ None ∷ Some 1 ∷ []
unfolding computed added moved net_of forest links
example = refl
