-- A report on the same ties in another order says the same.
-- Assumes nothing.
use mathlib.Core.Path.{◌≡◌, refl, sym, ap, ap₂, ◌∙◌}
use mathlib.Core.Bool.{not, cond}
use mathlib.Core.List.{List}
use Prim.Native.Nat.{ℕ, ◌-◌}
use lib.ListN.{length}
use Rattle.game.specs.Table.{tabulate, sum}
use Rattle.game.specs.Edge.{ties, edges}
use Rattle.game.specs.Graph.{Same, SameTies}
use Rattle.game.specs.Net.{Net, reach}
use Rattle.game.proofs.Tables.{tabulate-ext}
use Rattle.game.proofs.Order.{same_length, same_edges, net-order}
use Rattle.refusal.specs.Refusal.{given, first_fault, not_whole, list_refusal}
use Rattle.refusal.specs.Verdict.{judged}
use Rattle.refusal.proofs.First.{unless-alike}
use Rattle.refusal.proofs.Fault.{same-faultless}
use Rattle.divide.specs.Divide.{DivisionTables, divided}
use Rattle.reach_slots.proofs.SameEdges.{reach-order}
use Rattle.block_count.specs.BlockCount.{block_count_of, edge_blocks_of}
use Rattle.block_count.specs.Taken.{edges_taken_of}
use Rattle.block_count.proofs.AnyOrder.{block-count-order}
use Rattle.cost.specs.Figures.{bound, volume, bound_of, volume_of, totals, share_of, totals_of, is_cut}
use Rattle.compare.specs.Likeness.{same_net}
use Rattle.compare.specs.Compare.{unlike}
use Rattle.report_write.specs.Written.{Written, figures}
use Rattle.report_refusal.specs.Refused.{report_early}
use Rattle.report.specs.Report.{Lent, wrong_lent, report_refusal, report_outcome}
use Rattle.report.specs.SameReport.{SameReport}
use Rattle.report.proofs.Together.{written-figures, written-division}

module _ (of : Net) (B k : ℕ) (xs ys : List ℕ) (same : SameTies (ties xs) (ties ys)) where
  abbrev n : ℕ
  n = length of.parents

  edges-same : Same (edges xs) (edges ys)
  unfolding edges
  edges-same = same_edges same

  unlike-order : unlike of (ties xs) ≡ unlike of (ties ys)
  unfolding unlike
  unlike-order = ap (λ (net : Net). given (not (same_net of net)) 23) (net-order n same)

  reaches-order : tabulate n (reach of.parents (edges xs)) ≡ tabulate n (reach of.parents (edges ys))
  reaches-order = tabulate-ext n _ _ (λ x h. reach-order of.parents edges-same x)

  counts-order : (block : List ℕ) → tabulate n (block_count_of k block (edges xs)) ≡ tabulate n (block_count_of k block (edges ys))
  counts-order block = tabulate-ext n _ _ (λ x h. block-count-order k block edges-same x)

  totals-order : totals_of of (edges xs) B k ≡ totals_of of (edges ys) B k
  unfolding totals_of bound_of volume_of bound volume
  totals-order =
      ap₂ (λ (b v : ℕ). totals b v (share_of of k))
      (ap sum (tabulate-ext n _ _ (λ x h. ap (λ (r : ℕ). cond (is_cut of.parents (divided of B k).top x) r 0) (reach-order of.parents edges-same x))))
      (ap sum (tabulate-ext n _ _ (λ x h. ap (λ (c : ℕ). c - 1) (block-count-order k (divided of B k).block edges-same x))))

  module _ (was : Lent) (long : length xs ≡ length ys) (faultless : first_fault (length of.parents) (ties xs) ≡ 0) where
    -- 2 looks at lengths alone
    wrong-order : wrong_lent of k xs was ≡ wrong_lent of k ys was
    unfolding wrong_lent not_whole
    wrong-order = rw (long, same_length edges-same)

    -- the list is refused alike: neither has a fault, and they are of one length
    list-order : list_refusal n xs ≡ list_refusal n ys
    unfolding list_refusal
    list-order =
        rw (faultless, same-faultless n same faultless, same_length same)

    early-order : report_early of B k xs (wrong_lent of k xs was) ≡ report_early of B k ys (wrong_lent of k ys was)
    unfolding report_early
    early-order = rw (wrong-order, list-order)

    refusal-order : report_refusal of B k xs was ≡ report_refusal of B k ys was
    unfolding report_refusal
    refusal-order = rw (early-order, unlike-order)

    verdict-order : (report_outcome of B k xs was).verdict ≡ (report_outcome of B k ys was).verdict
    unfolding report_outcome
    verdict-order = ap₂ judged refusal-order totals-order

    -- what is written looks alike in each part of the figures that does so
    written-order : {C : Type 0} (f : Written → C) → f (figures of B k (edges xs)) ≡ f (figures of B k (edges ys))
        → f (report_outcome of B k xs was).tables.written ≡ f (report_outcome of B k ys was).tables.written
    unfolding report_outcome
    written-order f h = unless-alike (λ (t : Lent). f t.written) was early-order (unless-alike f was.written unlike-order h)

    -- The same report, but for the tables that follow the list.
    pub report-order : SameReport (length of.parents) k (report_outcome of B k xs was) ys (report_outcome of B k ys was)
    unfolding figures report_outcome
    report-order =
        record {
          verdict = sym verdict-order;
          division = sym (written-order (λ (w : Written). w.division) refl);
          reach = sym (written-order (λ (w : Written). w.reach) reaches-order);
          block_count = sym (written-order (λ (w : Written). w.block_count) (counts-order (divided of B k).block));
          compared = sym (unless-alike (λ (t : Lent). t.compared) was early-order (net-order n same));
          work = sym (unless-alike (λ (t : Lent). t.work) was early-order refl);
          edge_blocks = λ totals answer.
              ap (λ (w : Written). w.edge_blocks) (written-figures of B k ys was (sym verdict-order ∙ answer))
              ∙ ap (λ (d : DivisionTables). edge_blocks_of d.block (edges ys)) (sym (written-division of B k xs was answer));
          edges_taken = λ totals answer.
              ap (λ (w : Written). w.edges_taken) (written-figures of B k ys was (sym verdict-order ∙ answer))
              ∙ ap (λ (d : DivisionTables). tabulate n (edges_taken_of k d.block (edges ys))) (sym (written-division of B k xs was answer));
        }
