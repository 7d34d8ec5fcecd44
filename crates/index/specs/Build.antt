-- The index of an old list and an added one. Document 02, Paper 1: "an added list, given with the old list, yields the index that building
-- afresh over both would give".
--
-- "a wrong index length is 2. The index's n is its number of starts less one, and no starts at all is 2. More than 16,000,000 ties, old and
-- added together, is 20." What the two tables held does not matter.
-- Assumes nothing.
use Rattle.std.specs.Prelude.{List, [], ◌∷◌, ◌++◌, ℕ, ◌*◌, eqb, ltb, length}
use Rattle.game.specs.Edge.{Edge, ties, edges}
use Rattle.refusal.specs.Limits.{max_edges}
use Rattle.refusal.specs.Refusal.{given, first, bad_count, wrong_length, not_whole, first_fault}
use Rattle.refusal.specs.Outcome.{Done, done}
use Rattle.index.specs.Index.{Index, vertices, index_of}

-- in document 01's order; the neighbours have two entries to a tie, because it stands in two runs
unfoldable pub index_refusal : Index → (old added : List ℕ) → ℕ
index_refusal t old added =
    let both : List Edge = edges old ++ edges added in
    first
    (given (eqb (length t.starts) 0) 2
    ∷ given (bad_count (vertices t)) 1
    ∷ given (not_whole old) 2
    ∷ given (not_whole added) 2
    ∷ given (wrong_length (length t.neighbours) (2 * length both)) 2
    ∷ first_fault (vertices t) (ties old ++ ties added)
    ∷ given (ltb max_edges (length both)) 20
    ∷ [])

unfoldable pub index_outcome : Index → (old added : List ℕ) → Done Index
index_outcome t old added = done (index_refusal t old added) t (index_of (vertices t) (edges old ++ edges added))
