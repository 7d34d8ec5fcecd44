-- Relabelling a list of ties by an order.
--
-- Document 01: "Translate a tie list from mark numbers to ranks, by an order, into a second list of the same length; 4 and 5 are then found
-- in the mark numbers", and so is 32 (document 02, Paper 6). Rows are copied. "A net's n is the length of its parents, a translation's that
-- of its order." A mark number is a vertex number here. The call is lent one work table besides, as long as the order: it ends holding the
-- order's inverse. There is no 20: ties that are added or reported are bounded in number, not those that are relabelled.
-- Assumes nothing.
use Rattle.std.specs.Prelude.{List, [], ◌∷◌, ℕ, length}
use Rattle.game.specs.Edge.{ties}
use Rattle.refusal.specs.Refusal.{given, first, bad_count, wrong_length, not_whole, first_fault}
use Rattle.refusal.specs.Outcome.{Done, done}
use Rattle.order.specs.Order.{bad_order, rank_of, inverse_of}

-- a flat list of ties, with the two ends of each replaced by their ranks; one or two last numbers that make no tie stay
unfoldable pub relabelled : List ℕ → List ℕ → List ℕ
unfolding rank_of
relabelled order [] = []
relabelled order (a ∷ []) = a ∷ []
relabelled order (a ∷ b ∷ []) = a ∷ b ∷ []
relabelled order (a ∷ b ∷ rows ∷ xs) = rank_of order a ∷ rank_of order b ∷ rows ∷ relabelled order xs

-- the tables that the call is lent to write: the list in ranks, and the order's inverse
pub record RelabelTables : Type 0 where
  pub out : List ℕ
  pub inverse : List ℕ

abbrev pub relabel_tables : List ℕ → List ℕ → RelabelTables
relabel_tables xs ys = record { out = xs; inverse = ys }

-- of an order, a flat list of ties, and the lengths of the two tables
unfoldable pub relabel_refusal : List ℕ → List ℕ → ℕ → ℕ → ℕ
relabel_refusal order xs out_length inverse_length =
    first
    (given (bad_count (length order)) 1
    ∷ given (not_whole xs) 2
    ∷ given (wrong_length out_length (length xs)) 2
    ∷ given (wrong_length inverse_length (length order)) 2
    ∷ given (bad_order order) 3
    ∷ first_fault (length order) (ties xs)
    ∷ [])

-- what the call leaves, of an order, a flat list of ties and the tables as they were
unfoldable pub relabel_outcome : List ℕ → List ℕ → RelabelTables → Done RelabelTables
relabel_outcome order xs was =
    done
    (relabel_refusal order xs (length was.out) (length was.inverse))
    was
    (relabel_tables (relabelled order xs) (inverse_of order))
