-- What joining is refused for.
--
-- Document 01: 1 "of either net in a join", 2, 21 "two joined nets have different mark counts", 30, 20 "the total after .. joining".
-- Assumes nothing.
use Rattle.std.specs.Prelude.{[], ◌∷◌, ℕ, ◌+◌, ltb, length}
use Rattle.game.specs.Net.{Net, total}
use Rattle.refusal.specs.Limits.{max_total}
use Rattle.refusal.specs.Refusal.{given, first, bad_count, wrong_length}
use Rattle.net.specs.Damage.{damaged}
use Rattle.growth.specs.Work.{NetWithWork, bad_work}

-- the number for which joining is refused, or 0
unfoldable pub join_refusal : NetWithWork → Net → ℕ
join_refusal g other =
    let n : ℕ = length g.net.parents in
    let m : ℕ = length other.parents in
    first
    (given (bad_count n) 1
    ∷ given (bad_count m) 1
    ∷ given (wrong_length (length g.net.weights) n) 2
    ∷ given (wrong_length (length other.weights) m) 2
    ∷ given (bad_work n (n + m) g.work) 2
    ∷ given (wrong_length m n) 21
    ∷ given (damaged g.net) 30
    ∷ given (damaged other) 30
    ∷ given (ltb max_total (total g.net + total other)) 20
    ∷ [])
