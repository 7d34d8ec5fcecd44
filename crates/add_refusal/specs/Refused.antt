-- What adding is refused for.
--
-- Document 01: 1, 2 "a table of the wrong length for the call", 30, 4 or 5 "at the first faulty tie", 20 "the total after adding". Document
-- 02, Paper 6: 2 of "a length that isn't a multiple of three", 32 at the first faulty tie, 20 of a list of more than 16,000,000 ties.
-- Assumes nothing.
use Rattle.std.specs.Prelude.{List, [], ◌∷◌, ℕ, ◌+◌, ltb, length}
use Rattle.game.specs.Edge.{ties, edges}
use Rattle.game.specs.Net.{total, charges}
use Rattle.refusal.specs.Limits.{max_total}
use Rattle.refusal.specs.Refusal.{given, first, bad_count, wrong_length, not_whole, list_refusal}
use Rattle.net.specs.Damage.{damaged}
use Rattle.growth.specs.Work.{NetWithWork, bad_work}

-- the number for which adding is refused, or 0
unfoldable pub add_refusal : NetWithWork → List ℕ → ℕ
add_refusal g xs =
    let n : ℕ = length g.net.parents in
    first
    (given (bad_count n) 1
    ∷ given (wrong_length (length g.net.weights) n) 2
    ∷ given (not_whole xs) 2
    ∷ given (bad_work n (n + length (edges xs)) g.work) 2
    ∷ given (damaged g.net) 30
    ∷ list_refusal n xs
    ∷ given (ltb max_total (total g.net + charges (ties xs))) 20
    ∷ [])
