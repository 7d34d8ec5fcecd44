-- How a call decides. Document 01: "Order where several apply to a call: 1, 2, 6, 3, 8, 21, 30, then 4 or 5 at the first faulty
-- tie (4 before 5), 7, 20, 22, 23. The answer is the number alone and every table stays as it was".
-- A call lists its tests in that order, each with its number; the first that applies is the answer, and 0 means accepted.
-- Assumes nothing.
use Rattle.std.specs.Prelude.{Bool, true, false, not, ◌||◌, cond, List, [], ◌∷◌, ℕ, zero, suc, ◌%◌, eqb, leb, ltb, length}
use Rattle.game.specs.Edge.{Edge, ◌─◌, Tie, stride, ties}
use Rattle.refusal.specs.Limits.{max_vertices, max_edges, max_rows, outside}

-- the number, given exactly if the test holds
unfoldable pub given : Bool → ℕ → ℕ
given true k = k
given false k = 0

-- the first number that is not 0
unfoldable pub first : List ℕ → ℕ
first [] = 0
first (zero ∷ ks) = first ks
first (suc k ∷ ks) = suc k

-- a table after a call: as it was if the call was refused, else the new one
unfoldable pub unless : {A : Type 0} → ℕ → A → A → A
unless zero was new = new
unless (suc k) was new = was

-- 1: "mark count 0 or above 1,000,000"
unfoldable pub bad_count : ℕ → Bool
bad_count n = eqb n 0 || ltb max_vertices n

-- 2: "a table of the wrong length for the call", by the length that it has and the one that its use needs
unfoldable pub wrong_length : ℕ → ℕ → Bool
wrong_length has needs = not (eqb has needs)

-- 2 too: document 02, Paper 6: "a length that isn't a multiple of three is 2": the numbers do not make whole ties
unfoldable pub not_whole : List ℕ → Bool
not_whole xs = not (eqb (length xs % stride) 0)

-- 4: "a tie names n or more"; 5: "both ends of a tie are one mark"; "4 before 5"
unfoldable pub edge_fault : ℕ → Edge → ℕ
edge_fault n (a ─ b) = cond (leb n a || leb n b) 4 (cond (eqb a b) 5 0)

-- 32: Paper 6: "rows not 1 to 6; found at the first faulty tie, after 5"
unfoldable pub fault : ℕ → Tie → ℕ
fault n t = first (edge_fault n t.edge ∷ given (outside max_rows t.rows) 32 ∷ [])

-- "4 or 5 at the first faulty tie", or 32
unfoldable pub first_fault : ℕ → List Tie → ℕ
first_fault n [] = 0
first_fault n (t ∷ ts) = first (fault n t ∷ first_fault n ts ∷ [])

-- of a list that is added, or given as a net's own: its first fault, then 20. Paper 6: "a list is still at most 16,000,000 ties, and a
-- longer one, added or reported, is 20"
unfoldable pub list_refusal : ℕ → List ℕ → ℕ
list_refusal n xs = first (first_fault n (ties xs) ∷ given (ltb max_edges (length (ties xs))) 20 ∷ [])
