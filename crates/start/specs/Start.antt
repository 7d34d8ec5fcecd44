-- "Start a net with no ties." What the tables held is not looked at: 30 is never given.
-- Assumes nothing.
use Rattle.std.specs.Prelude.{[], ◌∷◌, ℕ, length}
use Rattle.game.specs.Net.{Net, net_of}
use Rattle.refusal.specs.Refusal.{given, first, bad_count, wrong_length}
use Rattle.refusal.specs.Outcome.{Done, done}

unfoldable pub start_refusal : Net → ℕ
start_refusal net =
    first
    (given (bad_count (length net.parents)) 1
    ∷ given (wrong_length (length net.weights) (length net.parents)) 2
    ∷ [])

unfoldable pub start_outcome : Net → Done Net
start_outcome net = done (start_refusal net) net (net_of (length net.parents) [])
