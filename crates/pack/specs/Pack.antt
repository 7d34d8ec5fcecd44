-- Packing the groups into blocks.
--
-- Document 01, Divide: "Groups go by rising top into the block with the least load so far, of equals the lowest number."
-- A group is given by its top; a group of weight 0 is packed like any other. Blocks count from 0.
-- Assumes nothing.
use Rattle.std.specs.Prelude.{Bool, cond, List, [], ◌∷◌, ℕ, zero, suc, ◌+◌, max, get_or, set, replicate}
use Rattle.pack.specs.Lightest.{lightest}

-- a group of weight v put into block j
unfoldable pub with_load : List ℕ → ℕ → ℕ → List ℕ
with_load loads j v = set loads j (get_or loads j 0 + v)

-- the loads of k blocks once the groups with a top below m are packed; is_top tells the tops, c the weight of a top's group
unfoldable pub loads_below : (ℕ → Bool) → (ℕ → ℕ) → ℕ → ℕ → List ℕ
unfolding lightest with_load
loads_below is_top c k zero = replicate k 0
loads_below is_top c k (suc x) =
    let loads : List ℕ = loads_below is_top c k x in
    let after : List ℕ = with_load loads (lightest loads) (c x) in
    cond (is_top x) after loads

-- the block that the group with top x goes into
unfoldable pub block_of : (ℕ → Bool) → (ℕ → ℕ) → ℕ → ℕ → ℕ
unfolding loads_below lightest
block_of is_top c k x = lightest (loads_below is_top c k x)

-- the largest load
unfoldable pub largest : List ℕ → ℕ
largest [] = 0
largest (v ∷ loads) = max v (largest loads)
