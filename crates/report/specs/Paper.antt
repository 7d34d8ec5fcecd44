-- Document 01, "Whole case": what Report ends with, computed from the definitions as one table; with it "With B = 3 rank 0 is the only
-- cut; with B = 2 the answer is 22. With k = 1 volume is 0", and a list that is not the net's own, which is 23. The last table of each is
-- document 02's Paper 3, how many of its edges the count of each vertex took; the share with each bound and volume is its Paper 4.
-- Assumes nothing.
use Rattle.std.specs.Prelude.{◌≡◌, refl, List, [], ◌∷◌, ℕ, replicate}
use Rattle.game.specs.Table.{tabulate, sum, count, member, filtered}
use Rattle.game.specs.Edge.{lower, ties, edges, touches}
use Rattle.game.specs.Tree.{sound}
use Rattle.game.specs.Net.{Net, net, net_of, reach}
use Rattle.refusal.specs.Limits.{outside}
use Rattle.refusal.specs.Refusal.{given, first, unless, bad_count, wrong_length, not_whole, edge_fault, fault, first_fault, list_refusal}
use Rattle.net.specs.Damage.{damaged_by, damaged}
use Rattle.growth.specs.Work.{work_of, bad_work, zeros, cleared}
use Rattle.refusal.specs.DivisionLimits.{bad_limits, too_heavy}
use Rattle.divide.specs.Divide.{division_of, divided, wrong_tables}
use Rattle.share.specs.Share.{share, even_share}
use Rattle.block_count.specs.BlockCount.{edge_block, edge_blocks_of, blocks_at, different, block_count_of}
use Rattle.cost.specs.Figures.{is_cut, bound, volume, bound_of, volume_of, share_of, totals, totals_of}
use Rattle.block_count.specs.Taken.{all_met, taken_after, edges_taken_of}
use Rattle.compare.specs.Likeness.{same_table, same_net}
use Rattle.compare.specs.Compare.{wrong_compared, unlike}
use Rattle.game.specs.Case.{whole, own, other, others}
use Rattle.refusal.specs.Verdict.{accepted, refused, judged}
use Rattle.refusal.specs.Outcome.{Outcome, ended}
use Rattle.cost.specs.declared.Totals.{Totals}
use Rattle.report_write.specs.Written.{Written, written, figures}
use Rattle.report_refusal.specs.Refused.{report_early}
use Rattle.report.specs.Report.{Lent, lent, wrong_figures, wrong_lent, report_refusal, report_outcome}

-- tables of the right lengths, lent with sevens in them
sevens : ℕ → List ℕ
sevens n = replicate n 7

given-tables : ℕ → Written
given-tables k = written (division_of (sevens 6) (sevens 6) (sevens 6) (sevens k)) (sevens 6) (sevens 6) (sevens 6) (sevens 6)

given-all : ℕ → Lent
given-all k = lent (given-tables k) (net (sevens 6) (sevens 6)) (work_of (sevens 6) (sevens 6) (sevens 12))

-- B = 4 and k = 2; B = 3; k = 1; B = 2; the other list; a table of blocks that is too short
pub computed : List (Outcome Totals Lent)
computed =
    report_outcome whole 4 2 own (given-all 2)
    ∷ report_outcome whole 3 2 own (given-all 2)
    ∷ report_outcome whole 4 1 own (given-all 1)
    ∷ report_outcome whole 2 2 own (given-all 2)
    ∷ report_outcome whole 4 2 other (given-all 2)
    ∷ report_outcome whole 4 2 own (given-all 1)
    ∷ []

-- the work tables, cleared, and the reaches, which no cutting changes
cleared-with : Written → Net → Lent
cleared-with w n = lent w n (work_of (replicate 6 0) (replicate 6 0) (replicate 12 0))

reaches : List ℕ
reaches = 2 ∷ 2 ∷ 2 ∷ 1 ∷ 1 ∷ 0 ∷ []

pub printed : List (Outcome Totals Lent)
printed =
    ended (accepted (totals 2 1 (share 3 0 2)))
    (cleared-with
    (written
    (division_of (3 ∷ 2 ∷ 4 ∷ 2 ∷ 2 ∷ 2 ∷ []) (2 ∷ 5 ∷ 2 ∷ 5 ∷ 5 ∷ 5 ∷ []) (0 ∷ 1 ∷ 0 ∷ 1 ∷ 1 ∷ 1 ∷ []) (4 ∷ 2 ∷ []))
    (0 ∷ 0 ∷ 1 ∷ 1 ∷ 0 ∷ 0 ∷ []) reaches (1 ∷ 1 ∷ 1 ∷ 1 ∷ 2 ∷ 1 ∷ []) (3 ∷ 2 ∷ 3 ∷ 1 ∷ 2 ∷ 1 ∷ []))
    whole)
    ∷ ended (accepted (totals 2 2 (share 3 0 2)))
    (cleared-with
    (written
    (division_of (3 ∷ 2 ∷ 1 ∷ 2 ∷ 3 ∷ 3 ∷ []) (0 ∷ 5 ∷ 5 ∷ 5 ∷ 5 ∷ 5 ∷ []) (0 ∷ 1 ∷ 1 ∷ 1 ∷ 1 ∷ 1 ∷ []) (3 ∷ 3 ∷ []))
    (0 ∷ 0 ∷ 1 ∷ 1 ∷ 1 ∷ 0 ∷ []) reaches (1 ∷ 1 ∷ 2 ∷ 1 ∷ 2 ∷ 1 ∷ []) (3 ∷ 2 ∷ 2 ∷ 1 ∷ 2 ∷ 1 ∷ []))
    whole)
    ∷ ended (accepted (totals 2 0 (share 6 0 1)))
    (cleared-with
    (written
    (division_of (3 ∷ 2 ∷ 4 ∷ 2 ∷ 2 ∷ 2 ∷ []) (2 ∷ 5 ∷ 2 ∷ 5 ∷ 5 ∷ 5 ∷ []) (replicate 6 0) (6 ∷ []))
    (replicate 6 0) reaches (replicate 6 1) (replicate 6 1))
    whole)
    ∷ ended (refused 22) (given-all 2)
    ∷ ended (refused 23) (cleared-with (given-tables 2) others)
    ∷ ended (refused 2) (given-all 1)
    ∷ []

pub paper : computed ≡ printed
unfolding computed printed whole own other others sevens given-tables given-all cleared-with reaches report_outcome report_refusal report_early unlike wrong_compared list_refusal wrong_lent wrong_figures figures first given unless bad_count wrong_length not_whole edge_fault outside fault first_fault damaged damaged_by sound bad_work cleared zeros bad_limits too_heavy wrong_tables divided judged same_net same_table net_of reach edge_blocks_of edge_block lower block_count_of different blocks_at edges_taken_of taken_after all_met filtered touches bound bound_of is_cut volume volume_of share_of even_share totals_of tabulate sum count member ties edges
paper = refl
