-- What lies between vertices of document 01's whole case, and of its net P5, two trees: computed from the definitions as one table.
-- Assumes nothing.
use Rattle.std.specs.Prelude.{◌≡◌, refl, List, [], ◌∷◌, ℕ, None, Some, replicate}
use Rattle.game.specs.Table.{tabulate, sum, member, filtered}
use Rattle.game.specs.Edge.{ties, edges}
use Rattle.game.specs.Game.{absent, forest}
use Rattle.game.specs.Tree.{sound, under}
use Rattle.game.specs.Net.{Net, net, net_of, weights}
use Rattle.refusal.specs.Limits.{outside}
use Rattle.refusal.specs.Refusal.{given, first, unless, bad_count, wrong_length, not_whole, edge_fault, fault, first_fault, list_refusal}
use Rattle.refusal.specs.Verdict.{accepted, refused, judged}
use Rattle.refusal.specs.Outcome.{Outcome, ended}
use Rattle.net.specs.Damage.{damaged_by, damaged}
use Rattle.growth.specs.Work.{work_of, bad_work, zeros, cleared}
use Rattle.compare.specs.Likeness.{same_table, same_net}
use Rattle.compare.specs.Compare.{wrong_compared, unlike}
use Rattle.game.specs.Case.{whole, own, other, others}
use Rattle.ancestry.specs.declared.Separator.{Separator}
use Rattle.ancestry.specs.Common.{common_ancestors, related, at_front}
use Rattle.ancestry.specs.Answer.{separator, lowest_of, separator_of}
use Rattle.separate.specs.Refused.{separate_early}
use Rattle.separate.specs.Separate.{SeparateTables, separate_tables, wrong_separate, grown_refusal, separate_refusal, separate_outcome}

-- the list of the whole case with a fault, 5, in front
faulty : List ℕ
faulty = 0 ∷ 0 ∷ 1 ∷ 0 ∷ 4 ∷ 1 ∷ 1 ∷ 3 ∷ 1 ∷ 1 ∷ 4 ∷ 1 ∷ 2 ∷ 5 ∷ 1 ∷ 2 ∷ 0 ∷ 1 ∷ []

-- P5: 0-2 among three vertices
trees : Net
trees = net (2 ∷ absent ∷ absent ∷ []) (1 ∷ 0 ∷ 0 ∷ [])

-- tables for n vertices and m entries for both, lent with sevens in them, and what a comparison leaves of them
lent : ℕ → ℕ → SeparateTables
lent n m = separate_tables (replicate n 7) (net (replicate n 7) (replicate n 7)) (work_of (replicate n 7) (replicate n 7) (replicate m 7))

left : ℕ → ℕ → List ℕ → Net → SeparateTables
left n m ys grown = separate_tables ys grown (work_of (replicate n 0) (replicate n 0) (replicate m 0))

-- 0 and 1; 3 and 2; 0 and 1 of P5; 31, of a vertex above, below, and the same; a rank of 6, before the fault is seen; the fault; another
-- list, before 31 is seen; a table that is too short
pub computed : List (Outcome Separator SeparateTables)
computed =
    separate_outcome whole 0 1 own (lent 6 12)
    ∷ separate_outcome whole 3 2 own (lent 6 12)
    ∷ separate_outcome trees 0 1 (0 ∷ 2 ∷ 1 ∷ []) (lent 3 4)
    ∷ separate_outcome whole 0 4 own (lent 6 12)
    ∷ separate_outcome whole 4 1 own (lent 6 12)
    ∷ separate_outcome whole 3 3 own (lent 6 12)
    ∷ separate_outcome whole 0 6 faulty (lent 6 12)
    ∷ separate_outcome whole 3 3 faulty (lent 6 12)
    ∷ separate_outcome whole 3 3 other (lent 6 12)
    ∷ separate_outcome whole 0 1 own (lent 6 11)
    ∷ []

pub printed : List (Outcome Separator SeparateTables)
printed =
    ended (accepted (separator 2 (Some 4))) (left 6 12 (4 ∷ 5 ∷ 7 ∷ 7 ∷ 7 ∷ 7 ∷ []) whole)
    ∷ ended (accepted (separator 2 (Some 4))) (left 6 12 (4 ∷ 5 ∷ 7 ∷ 7 ∷ 7 ∷ 7 ∷ []) whole)
    ∷ ended (accepted (separator 0 None)) (left 3 4 (replicate 3 7) trees)
    ∷ ended (refused 31) (left 6 12 (replicate 6 7) whole)
    ∷ ended (refused 31) (left 6 12 (replicate 6 7) whole)
    ∷ ended (refused 31) (left 6 12 (replicate 6 7) whole)
    ∷ ended (refused 4) (lent 6 12)
    ∷ ended (refused 5) (lent 6 12)
    ∷ ended (refused 23) (left 6 12 (replicate 6 7) others)
    ∷ ended (refused 2) (lent 6 11)
    ∷ []

pub example : computed ≡ printed
unfolding computed printed whole own other others faulty trees lent left separate_outcome separate_refusal separate_early grown_refusal wrong_separate wrong_compared bad_work list_refusal unlike same_net same_table first given unless judged bad_count wrong_length not_whole edge_fault outside fault first_fault damaged damaged_by sound sum cleared zeros net_of forest weights tabulate ties edges common_ancestors related under at_front separator_of lowest_of member filtered
example = refl
