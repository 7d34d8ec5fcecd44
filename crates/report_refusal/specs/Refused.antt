-- What Report is refused for before anything is compared.
--
-- Document 01: "Order where several apply to a call: 1, 2, 6, 3, 8, 21, 30, then 4 or 5 at the first faulty tie (4 before 5), 7, 20, 22,
-- 23." 32 comes after 5 (document 02, Paper 6). All but 23, which comes last, are decided by reading alone.
-- Assumes nothing.
use Rattle.std.specs.Prelude.{Bool, List, [], ◌∷◌, ℕ, length}
use Rattle.game.specs.Net.{Net}
use Rattle.refusal.specs.Refusal.{given, first, bad_count, list_refusal}
use Rattle.net.specs.Damage.{damaged}
use Rattle.refusal.specs.DivisionLimits.{bad_limits, too_heavy}

-- the number for which Report is refused early, or 0; `wrong` tells whether a length is wrong
unfoldable pub report_early : Net → ℕ → ℕ → List ℕ → (wrong : Bool) → ℕ
report_early of B k xs wrong =
    let n : ℕ = length of.parents in
    first
    (given (bad_count n) 1
    ∷ given wrong 2
    ∷ given (bad_limits B k) 8
    ∷ given (damaged of) 30
    ∷ list_refusal n xs
    ∷ given (too_heavy B of.weights) 22
    ∷ [])
