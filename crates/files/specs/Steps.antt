-- What the steps of loading promise each other. No public promise speaks of it: a run's is on its text alone.
-- Assumes nothing.
use Rattle.std.specs.Prelude.{◌≡◌, List, [], ◌∷◌, ℕ, ◌/◌, ◌*◌, eqb, length, take}
use Rattle.game.specs.Edge.{ties}
use Rattle.refusal.specs.Refusal.{given, first, first_fault}
use Rattle.order.specs.Order.{bad_order}
use Rattle.refusal.specs.DivisionLimits.{bad_limits}
use Rattle.files.specs.Files.{Files, vertex_count, order, edge_list, limit, blocks, edge_capacity}
use Rattle.files.specs.Refused.{too_many, not_records, file_refusal}

-- the numbers of the ties that the tables hold
abbrev pub number_capacity : ℕ
number_capacity = 3 * edge_capacity

-- the refusals of the files' lengths
unfoldable pub size_refusal : Files → ℕ
size_refusal f = first (given (eqb (vertex_count f) 0) 1 ∷ given (too_many f) 2 ∷ given (not_records f) 6 ∷ [])

-- the refusals of what they say: an order, a flat list of ties by vertex number, and the limits
unfoldable pub content_refusal : (order edge_list : List ℕ) (B k : ℕ) → ℕ
content_refusal order xs B k = first (given (bad_order order) 3 ∷ given (bad_limits B k) 8 ∷ first_fault (length order) (ties xs) ∷ [])

-- files whose lengths are not refused, and tables as long as what they say
pub record Sized (f : Files) (o xs : List ℕ) : Type 0 where
  pub passed : size_refusal f ≡ 0
  pub vertices : length o ≡ length f.marks / 4
  pub numbers : length xs ≡ length f.ties / 4

-- what taking them leaves: the order and the edges, and the refusal of what they say
pub record Decided (f : Files) (o xs : List ℕ) (code : ℕ) : Type 0 where
  pub ordered : o ≡ order f
  pub listed : xs ≡ edge_list f
  pub content : code ≡ content_refusal (order f) (edge_list f) (limit f) (blocks f)

-- what loading leaves: the refusal of the files; if there is none, tables that begin with the order and the edges
pub record FilesLoaded (f : Files) (o xs : List ℕ) (code : ℕ) : Type 0 where
  pub refusal : code ≡ file_refusal f
  pub ordered : code ≡ 0 → take (length f.marks / 4) o ≡ order f
  pub listed : code ≡ 0 → take (length f.ties / 4) xs ≡ edge_list f
