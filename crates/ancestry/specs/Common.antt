-- What two vertices of a forest have in common.
--
-- Document 02, Paper 5: "For two ranks of which neither is above the other, list the marks above both, lowest first .. The list goes to the
-- front of a table of n ranks, the rest of which is unchanged"; "31, the two ranks are equal or one is above the other".
-- Assumes nothing.
use Rattle.std.specs.Prelude.{Bool, ◌||◌, List, ◌++◌, ℕ, length, drop}
use Rattle.game.specs.Table.{member, filtered}
use Rattle.game.specs.Tree.{ancestors, under}

-- "the marks above both, lowest first": the common ancestors of a and b, nearest first
unfoldable pub common_ancestors : List ℕ → (a b : ℕ) → List ℕ
unfolding filtered member ancestors
common_ancestors p a b = filtered (λ (y : ℕ). member y (ancestors p b)) (ancestors p a)

-- "the two ranks are equal or one is above the other"
unfoldable pub related : List ℕ → (a b : ℕ) → Bool
unfolding under
related p a b = under p a b || under p b a

-- a list at the front of a table, "the rest of which is unchanged"
unfoldable pub at_front : List ℕ → (was : List ℕ) → List ℕ
at_front ys was = ys ++ drop (length ys) was
