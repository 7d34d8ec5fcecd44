-- The three ways in which Report ends as it has to: refused before the comparison, refused by it, accepted.
-- Assumes nothing.
use mathlib.Core.Path.{◌≡◌, refl, sym, ap, ap₂, ◌∙◌}
use mathlib.Core.Bool.{Bool, true, false}
use mathlib.Core.List.{List, [], ◌∷◌}
use Prim.Native.Nat.{ℕ}
use native.Mathlib.Omega.{arith}
use lib.ListN.{length}
use Rattle.game.specs.Edge.{ties, edges}
use Rattle.game.specs.Net.{Net, net_of}
use Rattle.refusal.specs.Refusal.{first}
use Rattle.refusal.proofs.First.{first-pass, first-stop, first-last, unless-refused, unless-accepted}
use Rattle.refusal.proofs.Fault.{list-proper}
use Rattle.growth.specs.Work.{Work, cleared}
use Rattle.divide.proofs.Refused.{divide-known}
use Rattle.reach_slots.specs.Given.{lower_counts, Given}
use Rattle.cost.specs.declared.Totals.{Totals}
use Rattle.cost.specs.Figures.{totals_of}
use Rattle.compare.specs.Compare.{unlike}
use Rattle.compare.specs.Steps.{Compared}
use Rattle.refusal.specs.Verdict.{accepted, refused, judged}
use Rattle.std.specs.Prelude.{Result}
use Rattle.std.specs.Result.{IsErrAnd}
use Rattle.std.proofs.lemmas.Result.{err_from_is_err_and}
use Rattle.refusal.specs.Outcome.{ended}
use Rattle.refusal.specs.Numbers.{number_of, verdict}
use Rattle.refusal.specs.declared.kinds.Refusal.{Refusal}
use Rattle.refusal.proofs.Numbers.{number-positive}
use Rattle.refusal.proofs.Ends.{judged-accepted, judged-refused}
use Rattle.report_write.specs.Written.{Written, figures}
use Rattle.report_write.specs.Steps.{Reportable, ReportWritten}
use Rattle.report_refusal.specs.Refused.{report_early}
use Rattle.report.specs.Report.{Lent, lent, wrong_lent, report_refusal, report_outcome}
use Rattle.compare.proofs.Unlike.{same-passes, found-own, found-other}
use Rattle.report.proofs.Refused.{ready}

module _ (of : Net) (B k : ℕ) (xs : List ℕ) (was : Lent) where
  early : ℕ
  early = report_early of B k xs (wrong_lent of k xs was)

  late : ℕ
  late = unlike of (ties xs)

  -- refused before the comparison: the number, and every table as it was
  pub ends-early : {wrong : Bool} (r : Result Totals Refusal) (e : Refusal) → IsErrAnd r (λ y. y ≡ e) → number_of e ≡ report_early of B k xs wrong → wrong ≡ wrong_lent of k xs was
      → ended (verdict r) was ≡ report_outcome of B k xs was
  unfolding report_outcome report_refusal verdict early late
  ends-early r e q h w =
      let p = err_from_is_err_and r q in
      rw p.1 (ap₂ ended (ap refused (ap number_of p.2 ∙ is) ∙ sym number) (sym (unless-refused early was _ some)))
    where
      is : number_of e ≡ early
      is = h ∙ ap (report_early of B k xs) w

      some : early ≡ 0 → ⊥
      some z = number-positive e (is ∙ z)

      number : judged (first (early ∷ late ∷ [])) (totals_of of (edges xs) B k) ≡ refused early
      number = ap (λ (m : ℕ). judged m (totals_of of (edges xs) B k)) (first-stop early (late ∷ []) some) ∙ judged-refused early _ some

  module _ (z : report_early of B k xs (wrong_lent of k xs was) ≡ 0) where
    passed : first (early ∷ late ∷ []) ≡ late
    unfolding early late
    passed = first-pass early (late ∷ []) z ∙ first-last late

    -- refused by the comparison: 23, the comparison tables hold the edges' net, and all but the work tables is as it was
    pub ends-late : {same : Bool} {new : Net} {work : Work} → Compared of xs was.work same new work → same ≡ false
        → ended (refused 23) (lent was.written new work) ≡ report_outcome of B k xs was
    unfolding report_outcome report_refusal early late
    ends-late c differs =
        ap₂ ended (sym number)
        ((λ i. lent (sym (unless-refused late was.written (figures of B k (edges xs)) some) i) (c.net i) (c.clear differs i))
        ∙ sym (unless-accepted early was _ z))
      where
        is : late ≡ 23
        is = found-other of (ties xs) c.answer differs

        some : late ≡ 0 → ⊥
        some e = omega (arith, is)

        number : judged (first (early ∷ late ∷ [])) (totals_of of (edges xs) B k) ≡ refused 23
        number =
            ap (λ (m : ℕ). judged m (totals_of of (edges xs) B k)) (passed ∙ is) ∙ judged-refused 23 _ (λ e. omega arith)

    -- where the comparison finds the net, it is the net of its edges
    module _ {same : Bool} {new : Net} {work : Work} (c : Compared of xs was.work same new work) (found : same ≡ true) where
      own : of ≡ net_of (length of.parents) (ties xs)
      own = found-own of (ties xs) c.answer found

      own-list : Given of.parents (lower_counts (length of.parents) (edges xs)) (edges xs)
      unfolding net_of edges
      own-list =
          let r = ready of B k xs was z in
          record {
            vertices = omega (arith, r.compares.growable.vertices, r.compares.parents);
            few = r.few;
            proper = list-proper (length of.parents) xs r.faultless;
            parents = ap (λ (of : Net). of.parents) own;
            counts = refl;
          }

      -- what writing asks
      pub write-ready : Reportable of.parents of.weights B (edges xs) work.ends work.lower was.written.division was.written.edge_blocks
          was.written.reach was.written.block_count
      write-ready =
          let r = ready of B k xs was z in
          let d = divide-known of.parents of.weights B k was.written.division r.divides in
          record {
            some = r.some;
            own = own-list;
            filed = c.filed found;
            divisible = d.net;
            division = d.tables;
            edge_blocks = r.lengths.edge_blocks;
            reaches = r.lengths.reaches;
            counts = r.lengths.counts;
          }

      -- accepted: the figures, all tables, and the work tables cleared
      pub ends-accepted : {loads : ℕ} {r : Totals} {new-written : Written} {work' : Work} → loads ≡ length was.written.division.block_loads
          → ReportWritten of B loads (edges xs) work r new-written work' → cleared work ≡ cleared was.work
          → ended (accepted r) (lent new-written new work') ≡ report_outcome of B k xs was
      unfolding report_outcome report_refusal early late
      ends-accepted {loads} l a w =
          ap₂ ended (ap accepted a.answers ∙ (λ i. accepted (totals_of of (edges xs) B (blocks i))) ∙ sym number)
          ((λ i. lent ((a.writes ∙ ap (λ (m : ℕ). figures of B m (edges xs)) blocks ∙ sym (unless-accepted late was.written (figures of B k (edges xs)) none)) i) (c.net i) ((a.clear ∙ w) i))
          ∙ sym (unless-accepted early was _ z))
        where
          blocks : loads ≡ k
          blocks = l ∙ (ready of B k xs was z).lengths.sized.loads

          none : late ≡ 0
          none = same-passes of (ties xs) own

          number : judged (first (early ∷ late ∷ [])) (totals_of of (edges xs) B k) ≡ accepted (totals_of of (edges xs) B k)
          number = judged-accepted (first (early ∷ late ∷ [])) _ (passed ∙ none)
