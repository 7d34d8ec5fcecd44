-- Comparing a net with ties that are said to be its own, as every call does that is given the net's own ties.
--
-- Document 01: "Two comparison tables, lent for it, end holding the parents and loads of the ties given"; refusal 23: "the ties
-- reported on have other parents or loads than the net". Another list with the same parents and weights is not told apart.
-- Assumes nothing.
use Rattle.std.specs.Prelude.{Bool, not, ◌||◌, List, ℕ, ◌+◌, length}
use Rattle.game.specs.Edge.{Tie}
use Rattle.game.specs.Net.{Net, net_of}
use Rattle.refusal.specs.Refusal.{given, wrong_length}
use Rattle.compare.specs.Likeness.{same_net}
use Rattle.growth.specs.Work.{Work, bad_work}

-- 2, of the comparison tables, with n entries each, and of the work tables, for n vertices and m ties
unfoldable pub wrong_compared : ℕ → ℕ → Net → Work → Bool
wrong_compared n m compared work =
    wrong_length (length compared.parents) n || wrong_length (length compared.weights) n || bad_work n (n + m) work

-- 23: "the ties reported on have other parents or loads than the net"
unfoldable pub unlike : Net → List Tie → ℕ
unlike of ts = given (not (same_net of (net_of (length of.parents) ts))) 23
