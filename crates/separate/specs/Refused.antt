-- What listing the vertices between two is refused for by reading alone.
--
-- Document 02, Paper 5: "A rank of n or more is 4, before any tie is looked at." The rest is document 01's, as for a report: 1, 2, 30, then
-- 4, 5 or 32 at the first faulty tie, and 20.
-- Assumes nothing.
use Rattle.std.specs.Prelude.{Bool, ◌||◌, List, [], ◌∷◌, ℕ, leb, length}
use Rattle.game.specs.Net.{Net}
use Rattle.refusal.specs.Refusal.{given, first, bad_count, list_refusal}
use Rattle.net.specs.Damage.{damaged}

-- what is decided by reading alone, or 0; `wrong` tells whether a length is wrong
unfoldable pub separate_early : Net → (a b : ℕ) → List ℕ → (wrong : Bool) → ℕ
separate_early of a b xs wrong =
    let n : ℕ = length of.parents in
    first
    (given (bad_count n) 1
    ∷ given wrong 2
    ∷ given (damaged of) 30
    ∷ given (leb n a || leb n b) 4
    ∷ list_refusal n xs
    ∷ [])
