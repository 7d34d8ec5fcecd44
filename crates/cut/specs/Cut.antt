-- Cutting a forest into groups.
--
-- Document 01, Divide: "Go up the ranks. The carried load of x is its load plus that of its uncut children; while it exceeds B,
-- cut the child with the most carried load, of equals the lowest rank. The tables keep the final carried load. A group is what
-- remains connected; its top is its highest rank."
-- To cut a vertex is to take away the link to its parent. What a set of cuts leaves is defined for any set, given as a test of
-- ranks; the cutting of document 01 is one of them. A load is a weight here.
-- Assumes nothing.
use Rattle.std.specs.Prelude.{Bool, not, ◌&&◌, cond, List, [], ◌∷◌, ◌++◌, map, ℕ, zero, suc, ◌+◌, eqb, ltb, length, get_or}
use Rattle.game.specs.Table.{tabulate, sum, member, filtered}
use Rattle.game.specs.Game.{absent}
use Rattle.game.specs.Tree.{ancestors}

-- all but h
unfoldable pub without : ℕ → List ℕ → List ℕ
unfolding filtered
without h ys = filtered (λ (z : ℕ). not (eqb z h)) ys

-- the ranks below m whose parent is x, lowest first
unfoldable pub children_below : List ℕ → ℕ → ℕ → List ℕ
unfolding filtered tabulate
children_below p m x = filtered (λ (y : ℕ). eqb (get_or p y absent) x) (tabulate m (λ (y : ℕ). y))

unfoldable pub children : List ℕ → ℕ → List ℕ
unfolding children_below
children p x = children_below p (length p) x

-- "its load plus that of its uncut children": own is a vertex's weight, ys are its uncut children, c tells what each carries
unfoldable pub carries : (ℕ → ℕ) → ℕ → List ℕ → ℕ
unfolding sum
carries c own ys = own + sum (map c ys)

-- "Go up the ranks": what the ranks below m carry, lowest first, where `uncut c x` are the uncut children of x; that may go by what
-- the lower ranks carry
unfoldable pub carried_below : ((ℕ → ℕ) → ℕ → List ℕ) → List ℕ → ℕ → List ℕ
unfolding carries
carried_below uncut w zero = []
carried_below uncut w (suc x) =
    let t : List ℕ = carried_below uncut w x in
    let c : ℕ → ℕ = λ (y : ℕ). get_or t y 0 in
    t ++ (carries c (get_or w x 0) (uncut c x) ∷ [])

-- what each rank carries under a set of cuts
unfoldable pub carried_under : List ℕ → List ℕ → (ℕ → Bool) → List ℕ
unfolding carried_below filtered children
carried_under p w cuts = carried_below (λ (c : ℕ → ℕ) (x : ℕ). filtered (λ (y : ℕ). not (cuts y)) (children p x)) w (length p)

-- from x up its ancestors ys, as far as no cut stops
unfoldable pub climb_to : (ℕ → Bool) → ℕ → List ℕ → ℕ
climb_to cuts x [] = x
climb_to cuts x (y ∷ ys) = let t : ℕ = climb_to cuts y ys in cond (cuts x) x t

-- the top of the group of x under a set of cuts: x itself if it is cut or has no parent, else the top of its parent's group
unfoldable pub top : List ℕ → (ℕ → Bool) → ℕ → ℕ
unfolding climb_to ancestors
top p cuts x = climb_to cuts x (ancestors p x)

unfoldable pub is_top : List ℕ → (ℕ → Bool) → ℕ → Bool
unfolding top
is_top p cuts x = eqb (top p cuts x) x

-- the group with top t, and its weight
unfoldable pub group : List ℕ → (ℕ → Bool) → ℕ → List ℕ
unfolding filtered top tabulate
group p cuts t = filtered (λ (x : ℕ). eqb (top p cuts x) t) (tabulate (length p) (λ (x : ℕ). x))

unfoldable pub group_weight : List ℕ → List ℕ → (ℕ → Bool) → ℕ → ℕ
unfolding sum group
group_weight p w cuts t = sum (map (λ (x : ℕ). get_or w x 0) (group p cuts t))

-- the best of y and a list, of equals the first: one that beats the best so far takes its place
unfoldable pub best : (ℕ → ℕ → Bool) → ℕ → List ℕ → ℕ
best beats y [] = y
best beats y (z ∷ ys) = best beats (cond (beats z y) z y) ys

-- "the child with the most carried load, of equals the lowest rank"; the children stand by rising rank
unfoldable pub heaviest : (ℕ → ℕ) → ℕ → List ℕ → ℕ
unfolding best
heaviest c y ys = best (λ (z y : ℕ). ltb (c y) (c z)) y ys

-- "while it exceeds B, cut the child with the most carried load": those of ys that stay uncut, after at most k cuts
unfoldable pub trim : ℕ → (ℕ → ℕ) → ℕ → ℕ → List ℕ → List ℕ
unfolding carries heaviest without
trim zero c B own ys = ys
trim (suc k) c B own [] = []
trim (suc k) c B own (y ∷ ys) =
    let trimmed : List ℕ = trim k c B own (without (heaviest c y ys) (y ∷ ys)) in
    cond (ltb B (carries c own (y ∷ ys))) trimmed (y ∷ ys)

-- the children that x keeps, where c tells what the lower ranks carry
unfoldable pub kept : List ℕ → List ℕ → ℕ → (ℕ → ℕ) → ℕ → List ℕ
unfolding trim children
kept p w B c x = let ys : List ℕ = children p x in trim (length ys) c B (get_or w x 0) ys

-- the carried weights of document 01's cutting
unfoldable pub carried : List ℕ → List ℕ → ℕ → List ℕ
unfolding carried_below kept
carried p w B = carried_below (kept p w B) w (length p)

-- its cuts: x is cut if it has a parent that does not keep it; c tells what each rank carries
unfoldable pub cut_by : List ℕ → List ℕ → ℕ → (ℕ → ℕ) → ℕ → Bool
unfolding kept member
cut_by p w B c x = let q : ℕ = get_or p x absent in ltb q (length p) && not (member x (kept p w B c q))

unfoldable pub cut : List ℕ → List ℕ → ℕ → ℕ → Bool
unfolding cut_by carried
cut p w B x = cut_by p w B (λ (y : ℕ). get_or (carried p w B) y 0) x
