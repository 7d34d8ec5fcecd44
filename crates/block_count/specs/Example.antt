-- What the count takes, computed from the definition, by the blocks of a vertex's edges in list order: of one block, which the first edge
-- completes; of two, which the third does; of three, which the fourth does; of four, one of which is not met, so that all edges are taken;
-- of three again, the edges in another order; and of a vertex without edges.
-- Assumes nothing.
use Rattle.std.specs.Prelude.{◌≡◌, refl, List, [], ◌∷◌, ℕ}
use Rattle.game.specs.Table.{tabulate, count, member}
use Rattle.block_count.specs.BlockCount.{different}
use Rattle.block_count.specs.Taken.{all_met, taken_after}

pub computed : List ℕ
computed =
    taken_after 1 [] (0 ∷ 0 ∷ 0 ∷ [])
    ∷ taken_after 2 [] (1 ∷ 1 ∷ 0 ∷ 1 ∷ 0 ∷ [])
    ∷ taken_after 3 [] (1 ∷ 1 ∷ 0 ∷ 2 ∷ 0 ∷ [])
    ∷ taken_after 4 [] (1 ∷ 1 ∷ 0 ∷ 2 ∷ 0 ∷ [])
    ∷ taken_after 3 [] (2 ∷ 0 ∷ 1 ∷ 0 ∷ 1 ∷ [])
    ∷ taken_after 2 [] []
    ∷ []

pub paper : computed ≡ 1 ∷ 3 ∷ 4 ∷ 5 ∷ 3 ∷ 0 ∷ []
unfolding computed taken_after all_met different tabulate count member
paper = refl
