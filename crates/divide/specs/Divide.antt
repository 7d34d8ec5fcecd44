-- The call Divide: what it refuses and what it writes.
--
-- Document 01: "Divide, with limit B and block count k .. It writes carried load, top and block of each rank, and the load of each
-- of the k blocks." Of its refusals 1, 2, 8, 30 and 22 can be given, in this order. A refused call leaves every table as it was.
-- Assumes nothing.
use Rattle.std.specs.Prelude.{Bool, ◌||◌, List, [], ◌∷◌, ℕ, eqb, length, get_or}
use Rattle.game.specs.Table.{tabulate}
use Rattle.game.specs.Net.{Net}
use Rattle.refusal.specs.Refusal.{given, first, bad_count, wrong_length}
use Rattle.refusal.specs.Outcome.{Done, done}
use Rattle.net.specs.Damage.{damaged}
use Rattle.cut.specs.Cut.{carried, cut_by, top}
use Rattle.pack.specs.Pack.{loads_below, block_of}
use Rattle.refusal.specs.DivisionLimits.{bad_limits, too_heavy}

-- the tables that Divide writes
pub record DivisionTables : Type 0 where
  pub carried : List ℕ
  pub top : List ℕ
  pub block : List ℕ
  pub block_loads : List ℕ

abbrev pub division_of : List ℕ → List ℕ → List ℕ → List ℕ → DivisionTables
division_of c t b l = record { carried = c; top = t; block = b; block_loads = l }

-- "It writes carried load, top and block of each rank, and the load of each of the k blocks"; a rank goes into the block of its top
unfoldable pub divided : Net → ℕ → ℕ → DivisionTables
unfolding carried cut_by top tabulate block_of loads_below
divided net B k =
    let p : List ℕ = net.parents in
    let w : List ℕ = net.weights in
    let carries : List ℕ = carried p w B in
    let c : ℕ → ℕ = λ (x : ℕ). get_or carries x 0 in
    let tops : List ℕ = tabulate (length p) (top p (cut_by p w B c)) in
    let top_of : ℕ → ℕ = λ (x : ℕ). get_or tops x 0 in
    let is_top : ℕ → Bool = λ (x : ℕ). eqb (top_of x) x in
    division_of carries tops (tabulate (length p) (λ (x : ℕ). block_of is_top c k (top_of x))) (loads_below is_top c k (length p))

-- 2: "a table of the wrong length for the call": the loads are a table of the k that is given, the others of n
unfoldable pub wrong_tables : Net → ℕ → DivisionTables → Bool
unfolding wrong_length
wrong_tables net k was =
    let n : ℕ = length net.parents in
    wrong_length (length net.weights) n
    || wrong_length (length was.carried) n
    || wrong_length (length was.top) n
    || wrong_length (length was.block) n
    || wrong_length (length was.block_loads) k

-- the number for which Divide is refused, or 0; `was` are the tables as they were lent
unfoldable pub divide_refusal : Net → ℕ → ℕ → DivisionTables → ℕ
divide_refusal net B k was =
    first
    (given (bad_count (length net.parents)) 1
    ∷ given (wrong_tables net k was) 2
    ∷ given (bad_limits B k) 8
    ∷ given (damaged net) 30
    ∷ given (too_heavy B net.weights) 22
    ∷ [])

unfoldable pub divide_outcome : Net → ℕ → ℕ → DivisionTables → Done DivisionTables
divide_outcome net B k was = done (divide_refusal net B k was) was (divided net B k)
