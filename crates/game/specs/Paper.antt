-- Document 01, "Nets on paper": the ten lines P1 to P10, computed from the definitions as one table. Paper 6: "Cases that print
-- loads take one row a tie."
-- Assumes nothing.
use Rattle.std.specs.Prelude.{◌≡◌, refl, List, [], ◌∷◌, ◌++◌, ℕ}
use Rattle.game.specs.Table.{tabulate}
use Rattle.game.specs.Edge.{Edge, ◌─◌, tie_of}
use Rattle.game.specs.Game.{absent, forest}
use Rattle.game.specs.Tree.{links}
use Rattle.game.specs.Net.{weights, reach}

-- the edges of P3, P4 and P5, which other lines go on from
fan : List Edge
fan = (0 ─ 1) ∷ (0 ─ 2) ∷ (0 ─ 3) ∷ []

star : List Edge
star = (0 ─ 3) ∷ (1 ─ 3) ∷ (2 ─ 3) ∷ []

far : List Edge
far = (0 ─ 2) ∷ []

near : List Edge
near = (0 ─ 1) ∷ []

reaches : ℕ → List Edge → List ℕ
reaches n es = tabulate n (reach (forest n es) es)

-- what the definitions give, P1 to P10, the weights of P10 last
pub computed : List (List ℕ)
computed =
    forest 1 []
    ∷ forest 3 ((0 ─ 1) ∷ (1 ─ 2) ∷ [])
    ∷ forest 4 fan
    ∷ forest 4 star
    ∷ forest 3 far
    ∷ forest 3 (links (forest 3 far) ++ near)
    ∷ forest 3 (links (forest 3 far) ++ links (forest 3 near))
    ∷ reaches 4 fan
    ∷ reaches 4 star
    ∷ forest 3 ((0 ─ 1) ∷ (0 ─ 1) ∷ [])
    ∷ weights 3 (tie_of (0 ─ 1) 1 ∷ tie_of (0 ─ 1) 1 ∷ [])
    ∷ []

-- what the paper prints
pub printed : List (List ℕ)
printed =
    (absent ∷ [])
    ∷ (1 ∷ 2 ∷ absent ∷ [])
    ∷ (1 ∷ 2 ∷ 3 ∷ absent ∷ [])
    ∷ (3 ∷ 3 ∷ 3 ∷ absent ∷ [])
    ∷ (2 ∷ absent ∷ absent ∷ [])
    ∷ (1 ∷ 2 ∷ absent ∷ [])
    ∷ (1 ∷ 2 ∷ absent ∷ [])
    ∷ (3 ∷ 2 ∷ 1 ∷ 0 ∷ [])
    ∷ (1 ∷ 1 ∷ 1 ∷ 0 ∷ [])
    ∷ (1 ∷ absent ∷ absent ∷ [])
    ∷ (2 ∷ 0 ∷ 0 ∷ [])
    ∷ []

pub paper : computed ≡ printed
unfolding computed printed fan star far near reaches forest links weights reach
paper = refl
