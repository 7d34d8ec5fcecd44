-- The run of a vertex, looked up in an index of neighbours.
--
-- Document 02, Paper 1: "A query for a rank hands back that rank's run, as part of the lent index. .. A query on a rank of n or more is 4 ..
-- no starts at all is 2. .. A refused query hands back an empty part of the index; the number, or 0 if accepted, goes to a lent cell. A
-- query takes neighbours of any length; starts that do not go from 0 up to their number without falling are 30 in it."
-- Assumes nothing.
use Rattle.std.specs.Prelude.{Bool, false, not, ◌&&◌, List, [], ◌∷◌, ℕ, ◌+◌, ◌-◌, Result, Ok, Err, eqb, leb, length, get_or, take, drop}
use Rattle.refusal.specs.Numbers.{number_of}
use Rattle.refusal.specs.Refusal.{given, first, unless, bad_count}
use Rattle.refusal.specs.declared.kinds.Refusal.{Refusal}
use Rattle.index.specs.Index.{Index, vertices}
use Rattle.query.specs.declared.Run.{Run}

-- starts that go on from k up to the end without falling
unfoldable pub rises_from : (k end : ℕ) → List ℕ → Bool
rises_from k end [] = eqb k end
rises_from k end (s ∷ starts) = leb k s && rises_from s end starts

-- "from 0 up to their number without falling"
unfoldable pub rises : (end : ℕ) → List ℕ → Bool
rises end [] = false
rises end (s ∷ starts) = eqb s 0 && rises_from s end starts

unfoldable pub query_refusal : Index → (v : ℕ) → ℕ
query_refusal t v =
    first
    (given (eqb (length t.starts) 0) 2
    ∷ given (bad_count (vertices t)) 1
    ∷ given (not (rises (length t.neighbours) t.starts)) 30
    ∷ given (leb (vertices t) v) 4
    ∷ [])

-- where a part of the index stands, and the number in the cell
pub record Place : Type 0 where
  pub number : ℕ
  pub first : ℕ
  pub count : ℕ

abbrev pub place_of : (number first count : ℕ) → Place
place_of number first count = record { number = number; first = first; count = count }

-- what the code answers, as a place: a refused query's is an empty part at the front
abbrev pub place : Result Run Refusal → Place
place (Ok run) = place_of 0 run.first run.count
place (Err r) = place_of (number_of r) 0 0

-- where the part that is handed back stands in the index: where the run of v does, or nowhere
unfoldable pub query_place : Index → (v : ℕ) → Place
query_place t v =
    let k : ℕ = query_refusal t v in
    let start : ℕ = get_or t.starts v 0 in
    place_of k (unless k 0 start) (unless k 0 (get_or t.starts (v + 1) 0 - start))

-- what a query hands back: the part of the index, and the number in the cell
pub record Answered : Type 0 where
  pub part : List ℕ
  pub cell : ℕ

abbrev pub answered : List ℕ → ℕ → Answered
answered part cell = record { part = part; cell = cell }

unfoldable pub query_outcome : Index → (v : ℕ) → Answered
query_outcome t v =
    let at : Place = query_place t v in
    answered (take at.count (drop at.first t.neighbours)) at.number
