-- What the files of a run are refused for, before its net is made.
--
-- Document 01: "Its tables hold 1,000 marks and 4,000 ties; more of either prints `refused 2`, even above 1,000,000 marks, and any other
-- refusal prints `refused` and the number. For the order of refusals below a run counts as one call." So 8 comes before 4, 5 and 32,
-- which are found in the ties, and 6, of each of the files, before what the files say.
-- Assumes nothing.
use Rattle.std.specs.Prelude.{Bool, not, ◌||◌, List, [], ◌∷◌, ℕ, ◌%◌, eqb, ltb, length}
use Rattle.game.specs.Edge.{ties}
use Rattle.refusal.specs.Refusal.{given, first, wrong_length, first_fault}
use Rattle.order.specs.Order.{bad_order}
use Rattle.refusal.specs.DivisionLimits.{bad_limits}
use Rattle.files.specs.Files.{Files, vertex_count, edge_count, order, edge_list, limit, blocks, vertex_capacity, edge_capacity}

-- 2: "more of either"
unfoldable pub too_many : Files → Bool
too_many f = ltb vertex_capacity (vertex_count f) || ltb edge_capacity (edge_count f)

-- bytes that are not whole records of a size
unfoldable pub part_record : (size : ℕ) → List ℕ → Bool
part_record size bytes = not (eqb (length bytes % size) 0)

-- 6: "a file is not whole records, .. or `want.rec` not one record"
unfoldable pub not_records : Files → Bool
not_records f = part_record 4 f.marks || part_record 12 f.ties || wrong_length (length f.want) 8

-- the number for which a run is refused before its net is made, or 0; 1 is for no mark alone, since 2 is for more than 1,000
unfoldable pub file_refusal : Files → ℕ
file_refusal f =
    first
    (given (eqb (vertex_count f) 0) 1
    ∷ given (too_many f) 2
    ∷ given (not_records f) 6
    ∷ given (bad_order (order f)) 3
    ∷ given (bad_limits (limit f) (blocks f)) 8
    ∷ first_fault (vertex_count f) (ties (edge_list f))
    ∷ [])
