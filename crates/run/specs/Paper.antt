-- Document 01, "Whole case": what a run prints, computed from the bytes of its files; with it "With B = 3 rank 0 is the only cut; with
-- B = 2 the answer is 22. With k = 1 volume is 0. n = 0 is 1", and some runs that more than one refusal applies to.
-- Assumes nothing.
use Rattle.std.specs.Prelude.{◌≡◌, refl, List, [], ◌∷◌, ◌++◌, ℕ, replicate}
use Rattle.game.specs.Table.{tabulate, sum, count, member, filtered}
use Rattle.game.specs.Edge.{lower, ties as ties_of, edges, touches}
use Rattle.game.specs.Net.{owner, weight, weights, net_of, reach}
use Rattle.refusal.specs.Refusal.{given, first, unless, wrong_length, edge_fault, fault, first_fault}
use Rattle.order.specs.Order.{bad_order}
use Rattle.relabel.specs.Relabel.{relabelled}
use Rattle.refusal.specs.DivisionLimits.{bad_limits, too_heavy}
use Rattle.divide.specs.Divide.{divided}
use Rattle.share.specs.Share.{even_share}
use Rattle.block_count.specs.BlockCount.{edge_block, edge_blocks_of, blocks_at, different, block_count_of}
use Rattle.cost.specs.Figures.{is_cut, bound, volume, bound_of, volume_of, share_of, totals_of}
use Rattle.report_write.specs.Written.{figures}
use Rattle.words.specs.Word.{bytes_of, words, word_at}
use Rattle.decimal.specs.Ascii.{ascii}
use Rattle.decimal.specs.Decimal.{decimal}
use Rattle.lines.specs.Line.{spaced, newlined, parent_text, line_text}
use Rattle.lines.specs.Lines.{refused_text, rank_text, lines_below, share_text, totals_text}
use Rattle.files.specs.Files.{files, vertex_count, edge_count, order, edge_list, limit, blocks}
use Rattle.files.specs.Refused.{too_many, part_record, not_records, file_refusal}
use Rattle.run.specs.Run.{ranked_ties, run_net, run_refusal}
use Rattle.run_report.specs.Text.{report_text, decided_text}
use Rattle.run.specs.Text.{run_text}

-- the order and the ties of the whole case, each of one row
marks : List ℕ
marks = bytes_of (3 ∷ 0 ∷ 1 ∷ 2 ∷ 4 ∷ 5 ∷ [])

ties : List ℕ
ties = bytes_of (3 ∷ 1 ∷ 1 ∷ 3 ∷ 4 ∷ 1 ∷ 0 ∷ 2 ∷ 1 ∷ 0 ∷ 4 ∷ 1 ∷ 1 ∷ 5 ∷ 1 ∷ 1 ∷ 3 ∷ 1 ∷ [])

-- the same ties of 6, 1, 3, 1, 2 and 1 rows
rowed : List ℕ
rowed = bytes_of (3 ∷ 1 ∷ 6 ∷ 3 ∷ 4 ∷ 1 ∷ 0 ∷ 2 ∷ 3 ∷ 0 ∷ 4 ∷ 1 ∷ 1 ∷ 5 ∷ 2 ∷ 1 ∷ 3 ∷ 1 ∷ [])

want : (B k : ℕ) → List ℕ
want B k = bytes_of (B ∷ k ∷ [])

-- a list that names a vertex 9, one that before that names a vertex twice, and one that before both has a tie of 7 rows
foreign : List ℕ
foreign = bytes_of (9 ∷ 9 ∷ 0 ∷ [])

twice : List ℕ
twice = bytes_of (1 ∷ 1 ∷ 0 ∷ 9 ∷ 9 ∷ 0 ∷ [])

costly : List ℕ
costly = bytes_of (1 ∷ 2 ∷ 7 ∷ 1 ∷ 1 ∷ 0 ∷ [])

zeros : ℕ → List ℕ
zeros n = replicate n 0

-- B = 4 and k = 2; B = 3; k = 1; B = 2; one vertex and no tie; other rows, with B = 8 and B = 7
pub computed : List (List ℕ)
computed =
    run_text (files marks ties (want 4 2))
    ∷ run_text (files marks ties (want 3 2))
    ∷ run_text (files marks ties (want 4 1))
    ∷ run_text (files marks ties (want 2 2))
    ∷ run_text (files (zeros 4) [] (want 1 1))
    ∷ run_text (files marks rowed (want 8 2))
    ∷ run_text (files marks rowed (want 7 2))
    ∷ []

pub printed : List (List ℕ)
printed =
    (ascii "0 3 2 3 2 2 0 1\n"
    ++ ascii "1 0 3 2 2 5 1 1\n"
    ++ ascii "2 1 4 1 2 2 0 1\n"
    ++ ascii "3 2 4 0 1 5 1 1\n"
    ++ ascii "4 4 5 0 1 5 1 2\n"
    ++ ascii "5 5 - 0 0 5 1 1\n"
    ++ ascii "bound 2 volume 1 share 3 0\n")
    ∷ (ascii "0 3 2 3 2 0 0 1\n"
    ++ ascii "1 0 3 2 2 5 1 1\n"
    ++ ascii "2 1 4 1 2 5 1 2\n"
    ++ ascii "3 2 4 0 1 5 1 1\n"
    ++ ascii "4 4 5 0 1 5 1 2\n"
    ++ ascii "5 5 - 0 0 5 1 1\n"
    ++ ascii "bound 2 volume 2 share 3 0\n")
    ∷ (ascii "0 3 2 3 2 2 0 1\n"
    ++ ascii "1 0 3 2 2 5 0 1\n"
    ++ ascii "2 1 4 1 2 2 0 1\n"
    ++ ascii "3 2 4 0 1 5 0 1\n"
    ++ ascii "4 4 5 0 1 5 0 1\n"
    ++ ascii "5 5 - 0 0 5 0 1\n"
    ++ ascii "bound 2 volume 0 share 6 0\n")
    ∷ ascii "refused 22\n"
    ∷ (ascii "0 0 - 0 0 0 0 0\n" ++ ascii "bound 0 volume 0 share 0 0\n")
    ∷ (ascii "0 3 2 8 2 0 0 1\n"
    ++ ascii "1 0 3 4 2 5 1 1\n"
    ++ ascii "2 1 4 2 2 5 1 2\n"
    ++ ascii "3 2 4 0 1 5 1 1\n"
    ++ ascii "4 4 5 0 1 5 1 2\n"
    ++ ascii "5 5 - 0 0 5 1 1\n"
    ++ ascii "bound 2 volume 2 share 7 0\n")
    ∷ ascii "refused 22\n"
    ∷ []

-- No vertex, and part of one, with anything; more than 1,000 vertices; more than 4,000 ties; part of a record behind 1,000 vertices,
-- behind the ties, and no limits at all; an order that repeats; a limit of 0; a tie of a vertex 9; a tie of one vertex, before that; a tie
-- of 7 rows, before that, with a limit of 0 and with good limits.
pub refused_runs : List ℕ
refused_runs =
    run_refusal (files [] foreign [])
    ∷ run_refusal (files (zeros 3) foreign [])
    ∷ run_refusal (files (zeros 4_004) foreign [])
    ∷ run_refusal (files marks (zeros 48_012) [])
    ∷ run_refusal (files (zeros 4_001) foreign (want 0 0))
    ∷ run_refusal (files (zeros 8) (zeros 8) (want 0 0))
    ∷ run_refusal (files (zeros 8) foreign [])
    ∷ run_refusal (files (zeros 8) foreign (want 0 0))
    ∷ run_refusal (files marks foreign (want 0 2))
    ∷ run_refusal (files marks foreign (want 4 1_001))
    ∷ run_refusal (files marks foreign (want 4 2))
    ∷ run_refusal (files marks twice (want 4 2))
    ∷ run_refusal (files marks costly (want 0 2))
    ∷ run_refusal (files marks costly (want 4 2))
    ∷ []

pub paper : computed ≡ printed
unfolding computed printed marks ties rowed want zeros ascii decimal run_text run_refusal file_refusal too_many part_record not_records ranked_ties run_net vertex_count edge_count order edge_list limit blocks refused_text spaced newlined parent_text line_text rank_text lines_below share_text totals_text report_text decided_text words word_at bytes_of unless first given wrong_length bad_order bad_limits first_fault ties_of edges edge_fault fault too_heavy net_of relabelled figures reach divided lower owner weight weights edge_blocks_of edge_block block_count_of different blocks_at filtered touches bound bound_of is_cut volume volume_of share_of even_share totals_of tabulate sum count member
paper = refl

pub refused : refused_runs ≡ 1 ∷ 1 ∷ 2 ∷ 2 ∷ 6 ∷ 6 ∷ 6 ∷ 3 ∷ 8 ∷ 8 ∷ 4 ∷ 5 ∷ 8 ∷ 32 ∷ []
unfolding refused_runs marks foreign twice costly want zeros run_refusal file_refusal too_many part_record not_records vertex_count edge_count order edge_list limit blocks words word_at bytes_of first given wrong_length bad_order bad_limits first_fault ties_of edge_fault fault
refused = refl
