-- Document 01, "Whole case": how its forest is divided, computed from the definitions as one table.
-- Assumes nothing.
use Rattle.std.specs.Prelude.{◌≡◌, refl, List, [], ◌∷◌, ℕ, replicate}
use Rattle.game.specs.Table.{sum}
use Rattle.game.specs.Tree.{sound}
use Rattle.game.specs.Case.{whole}
use Rattle.net.specs.Damage.{damaged_by, damaged}
use Rattle.refusal.specs.Refusal.{given, first, unless, bad_count}
use Rattle.refusal.specs.Verdict.{accepted, refused, judged}
use Rattle.refusal.specs.Outcome.{Done, ended, decided}
use Rattle.refusal.specs.DivisionLimits.{bad_limits, too_heavy}
use Rattle.divide.specs.Divide.{DivisionTables, division_of, divided, wrong_tables, divide_refusal, divide_outcome}

-- tables of the right lengths, lent with sevens in them
lent : ℕ → DivisionTables
lent k = division_of (replicate 6 7) (replicate 6 7) (replicate 6 7) (replicate k 7)

-- B = 4 and k = 2; B = 3; k = 1; B = 2, which is refused; a block count of 0, and a table too long for it
pub computed : List (Done DivisionTables)
computed =
    divide_outcome whole 4 2 (lent 2)
    ∷ divide_outcome whole 3 2 (lent 2)
    ∷ divide_outcome whole 4 1 (lent 1)
    ∷ divide_outcome whole 2 2 (lent 2)
    ∷ divide_outcome whole 4 0 (lent 0)
    ∷ divide_outcome whole 4 0 (lent 1)
    ∷ []

pub printed : List (Done DivisionTables)
printed =
    ended (accepted tt) (division_of (3 ∷ 2 ∷ 4 ∷ 2 ∷ 2 ∷ 2 ∷ []) (2 ∷ 5 ∷ 2 ∷ 5 ∷ 5 ∷ 5 ∷ []) (0 ∷ 1 ∷ 0 ∷ 1 ∷ 1 ∷ 1 ∷ []) (4 ∷ 2 ∷ []))
    ∷ ended (accepted tt) (division_of (3 ∷ 2 ∷ 1 ∷ 2 ∷ 3 ∷ 3 ∷ []) (0 ∷ 5 ∷ 5 ∷ 5 ∷ 5 ∷ 5 ∷ []) (0 ∷ 1 ∷ 1 ∷ 1 ∷ 1 ∷ 1 ∷ []) (3 ∷ 3 ∷ []))
    ∷ ended (accepted tt) (division_of (3 ∷ 2 ∷ 4 ∷ 2 ∷ 2 ∷ 2 ∷ []) (2 ∷ 5 ∷ 2 ∷ 5 ∷ 5 ∷ 5 ∷ []) (replicate 6 0) (6 ∷ []))
    ∷ ended (refused 22) (lent 2)
    ∷ ended (refused 8) (lent 0)
    ∷ ended (refused 2) (lent 1)
    ∷ []

pub paper : computed ≡ printed
unfolding computed printed whole lent divide_outcome divide_refusal decided first given bad_count wrong_tables bad_limits too_heavy divided damaged damaged_by unless judged sound sum
paper = refl
