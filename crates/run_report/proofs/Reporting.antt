-- A report on the net of a run: only 22 can be given, and its text is what the run prints.
-- Assumes nothing.
use mathlib.Core.Path.{◌≡◌, refl, sym, ap, subst, ◌∙◌}
use mathlib.Core.Bool.{Bool, false}
use mathlib.Core.List.{List, [], ◌∷◌, ◌++◌}
use Prim.Native.Nat.{ℕ, zero, suc, ◌+◌, ◌*◌, ◌≤◌}
use native.Mathlib.Omega.{arith}
use lib.ListN.{length}
use borrow.Author.Tests.{le-ltb}
use Rattle.game.specs.Edge.{Tie, without_rows, ties, edges}
use Rattle.game.specs.Net.{Net, net_of, total}
use Rattle.game.specs.Graph.{Proper}
use Rattle.game.proofs.Bools.{test-cases}
use Rattle.game.proofs.Edges.{edges-ties}
use Rattle.game.proofs.Sound.{true-sound}
use Rattle.game.proofs.Forest.{forest-length, forest-sound}
use Rattle.game.proofs.Tables.{tabulate-length}
use Rattle.game.proofs.Weights.{weights-length, weights-charges}
use Rattle.refusal.specs.Limits.{max_total}
use Rattle.refusal.specs.Refusal.{given, first, unless, bad_count, first_fault}
use Rattle.refusal.specs.Verdict.{Verdict, judged}
use Rattle.refusal.specs.Outcome.{Outcome, ended}
use Rattle.refusal.proofs.First.{pass, first-pass, first-last, right-length, unless-accepted, unless-refused}
use Rattle.refusal.proofs.Fault.{faultless-proper, charges-most}
use Rattle.refusal.proofs.ListRefusal.{list-passes}
use Rattle.net.specs.Damage.{damaged_by, damaged}
use Rattle.growth.specs.Work.{bad_work}
use Rattle.refusal.specs.DivisionLimits.{too_heavy}
use Rattle.divide.specs.Divide.{divided, wrong_tables}
use Rattle.decimal.specs.Put.{PutText}
use Rattle.cost.specs.declared.Totals.{Totals}
use Rattle.cost.specs.Figures.{totals_of}
use Rattle.compare.specs.Compare.{wrong_compared, unlike}
use Rattle.report_write.specs.Written.{Written, figures}
use Rattle.report_refusal.specs.Refused.{report_early}
use Rattle.report.specs.Report.{Lent, wrong_figures, wrong_lent, report_refusal, report_outcome}
use Rattle.compare.proofs.Unlike.{same-passes}
use Rattle.lines.specs.Lines.{rank_text, lines_below, totals_text}
use Rattle.lines.specs.FieldSteps.{line_room}
use Rattle.lines.specs.LineSteps.{Columns, answer_text, totals_room}
use Rattle.files.specs.Files.{edge_capacity}
use Rattle.run_report.specs.Text.{report_text, decided_text}
use Rattle.run_report.specs.Steps.{Ready, net_text, text_room}
use Rattle.run_report.proofs.Growing.{few-vertices}

-- a last number that is 0 decides nothing
first-before-zero : (k m : ℕ) → m ≡ 0 → first (k ∷ m ∷ []) ≡ k
unfolding first
first-before-zero zero m e = rw e
first-before-zero (suc k) m e = refl

-- what is printed of a report's answer, by its number
by_number : (code : ℕ) (q : Verdict Totals) (t : Totals) (lines report : List ℕ) → q ≡ judged code t → (code ≡ 0 → lines ++ totals_text t ≡ report)
    → answer_text q lines ≡ decided_text code report
unfolding answer_text decided_text unless judged
by_number zero q t lines report e h = ap (λ (a : Verdict Totals). answer_text a lines) e ∙ h refl
by_number (suc m) q t lines report e h = ap (λ (a : Verdict Totals). answer_text a lines) e

-- the net of few ties
module _ (n : ℕ) (ts : List Tie) (faultless : first_fault n ts ≡ 0) (few : length ts ≤ edge_capacity) where
  proper : Proper n (without_rows ts)
  proper = faultless-proper n ts faultless

  own-undamaged : damaged (net_of n ts) ≡ false
  unfolding damaged damaged_by net_of
  own-undamaged = rw (true-sound (forest-sound proper), le-ltb max_total (total (net_of n ts)) (omega (arith, weights-charges ts proper, charges-most n ts faultless, few)))

-- the tables of a report's own, for n vertices, m edges and k blocks
pub record ReportRoom (n m k : ℕ) (was : Lent) : Type 0 where
  pub carried : length was.written.division.carried ≡ n
  pub top : length was.written.division.top ≡ n
  pub block : length was.written.division.block ≡ n
  pub loads : length was.written.division.block_loads ≡ k
  pub edge_blocks : length was.written.edge_blocks ≡ m
  pub reach : length was.written.reach ≡ n
  pub block_count : length was.written.block_count ≡ n
  pub edges_taken : length was.written.edges_taken ≡ n
  pub compared_parents : length was.compared.parents ≡ n
  pub compared_weights : length was.compared.weights ≡ n
  pub ends : length was.work.ends ≡ n
  pub jump : length was.work.jump ≡ n
  pub lower : length was.work.lower ≡ n + m

module _ {o ranks : List ℕ} {B k : ℕ} {of : Net} (g : Ready o ranks B k of) where
  vertices : length of.parents ≡ length o
  unfolding net_of edges
  vertices = ap (λ (net : Net). length net.parents) g.own ∙ forest-length (length o) (edges ranks)

  weights : length of.weights ≡ length o
  unfolding net_of
  weights = ap (λ (net : Net). length net.weights) g.own ∙ weights-length (length o) (ties ranks)

  pub text-room : (room : ℕ) → text_room ≤ room → line_room * length o + totals_room ≤ room
  text-room room h = omega (arith, g.vertices)

  -- a report with tables that fit
  module _ {was : Lent} (room : ReportRoom (length o) (length (edges ranks)) k was) where
    lengths-right : wrong_lent of k ranks was ≡ false
    unfolding wrong_lent wrong_tables wrong_figures wrong_compared bad_work
    lengths-right =
        let v : length o ≡ length of.parents = sym vertices in
        rw (
          right-length _ _ (weights ∙ v),
          right-length _ _ (room.carried ∙ v),
          right-length _ _ (room.top ∙ v),
          right-length _ _ (room.block ∙ v),
          right-length _ _ room.loads,
          right-length _ _ room.edge_blocks,
          right-length _ _ (room.reach ∙ v),
          right-length _ _ (room.block_count ∙ v),
          right-length _ _ (room.edges_taken ∙ v),
          right-length _ _ (room.compared_parents ∙ v),
          right-length _ _ (room.compared_weights ∙ v),
          right-length _ _ (room.ends ∙ v),
          right-length _ _ (room.jump ∙ v),
          right-length _ _ (room.lower ∙ ap (λ (n : ℕ). n + length (edges ranks)) v),
          g.all,
        )

    few-ties : length (ties ranks) ≤ edge_capacity
    few-ties = omega (arith, edges-ties ranks, g.few)

    -- before the comparison only 22 is given, and the comparison finds the net
    only-heavy : report_early of B k ranks (wrong_lent of k ranks was) ≡ given (too_heavy B of.weights) 22
    unfolding report_early
    only-heavy =
        pass 1 _ (ap bad_count vertices ∙ few-vertices (length o) g.some g.vertices)
        ∙ pass 2 _ lengths-right
        ∙ pass 8 _ g.limits
        ∙ pass 30 _ (ap damaged g.own ∙ own-undamaged (length o) (ties ranks) g.faultless few-ties)
        ∙ first-pass _ _ (list-passes _ ranks (ap (λ (n : ℕ). first_fault n (ties ranks)) vertices ∙ g.faultless) (omega (arith, g.few)))
        ∙ first-last _

    same : unlike of (ties ranks) ≡ 0
    same = same-passes of (ties ranks) (g.own ∙ ap (λ (n : ℕ). net_of n (ties ranks)) (sym vertices))

    -- the lines of a net and of the figures of its report
    lines : Net → Written → List ℕ
    lines net w = lines_below (rank_text o net.parents net.weights w.reach w.division.top w.division.block w.block_count) (length o)

    -- what is printed of the report
    module _ {q : Verdict Totals} {new : Lent} (ends : ended q new ≡ report_outcome of B k ranks was) where
      code : ℕ
      code = given (too_heavy B of.weights) 22

      number : report_refusal of B k ranks was ≡ code
      unfolding report_refusal code
      number = ap (λ (m : ℕ). first (m ∷ unlike of (ties ranks) ∷ [])) only-heavy ∙ first-before-zero _ _ same

      verdict-is : q ≡ judged code (totals_of of (edges ranks) B k)
      unfolding report_outcome
      verdict-is =
          ap (λ (e : Outcome Totals Lent). e.verdict) ends ∙ ap (λ (m : ℕ). judged m (totals_of of (edges ranks) B k)) number

      writes : code ≡ 0 → new.written ≡ figures of B k (edges ranks)
      unfolding report_outcome code
      writes z =
          ap (λ (e : Outcome Totals Lent). e.tables.written) ends
          ∙ ap (λ (t : Lent). t.written) (unless-accepted (report_early of B k ranks (wrong_lent of k ranks was)) was _ (only-heavy ∙ z))
          ∙ unless-accepted (unlike of (ties ranks)) was.written (figures of B k (edges ranks)) same

      -- the tables hold what they did, or what is written
      either : (P : Written → Type 0) → P was.written → P (figures of B k (edges ranks)) → P new.written
      unfolding report_outcome code given
      either P before after =
          test-cases (too_heavy B of.weights)
          (λ e.
          let heavy : given (too_heavy B of.weights) 22 ≡ 22 = ap (λ (b : Bool). given b 22) e in
          let kept : new.written ≡ was.written =
          ap (λ (e : Outcome Totals Lent). e.tables.written) ends
          ∙ ap (λ (t : Lent). t.written) (unless-refused (report_early of B k ranks (wrong_lent of k ranks was)) was _ (λ z. omega (arith, only-heavy, heavy, z))) in
          subst P (sym kept) before)
          (λ e. subst P (sym (writes (ap (λ (b : Bool). given b 22) e))) after)

      -- so they are as long as they were: what writing the lines asks
      reach-long : length new.written.reach ≡ length o
      unfolding figures
      reach-long = either (λ w. length w.reach ≡ length o) room.reach (tabulate-length _ _ ∙ vertices)

      count-long : length new.written.block_count ≡ length o
      unfolding figures
      count-long = either (λ w. length w.block_count ≡ length o) room.block_count (tabulate-length _ _ ∙ vertices)

      top-long : length new.written.division.top ≡ length o
      unfolding figures divided
      top-long = either (λ w. length w.division.top ≡ length o) room.top (tabulate-length _ _ ∙ vertices)

      block-long : length new.written.division.block ≡ length o
      unfolding figures divided
      block-long = either (λ w. length w.division.block ≡ length o) room.block (tabulate-length _ _ ∙ vertices)

      pub columns : Columns o of.parents of.weights new.written.reach new.written.division.top new.written.division.block new.written.block_count
      columns = record {
        few = omega (arith, g.vertices);
        parents = vertices;
        weights = weights;
        reach = reach-long;
        top = top-long;
        block = block-long;
        block_count = count-long;
      }

      accepted-text : code ≡ 0 → lines of new.written ++ totals_text (totals_of of (edges ranks) B k) ≡ report_text o (ties ranks) B k
      unfolding report_text lines edges
      accepted-text z =
          ap (λ (w : Written). lines of w ++ totals_text (totals_of of (edges ranks) B k)) (writes z)
          ∙ ap (λ (net : Net). lines net (figures net B k (edges ranks)) ++ totals_text (totals_of net (edges ranks) B k)) g.own

      prints : answer_text q (lines of new.written) ≡ net_text o (ties ranks) B k
      unfolding net_text code
      prints =
          by_number code q _ _ _ verdict-is accepted-text
          ∙ ap (λ (net : Net). decided_text (given (too_heavy B net.weights) 22) (report_text o (ties ranks) B k)) g.own

      pub put-prints : {text text' : List ℕ} {end : ℕ}
          → PutText text 0 (answer_text q (lines_below (rank_text o of.parents of.weights new.written.reach new.written.division.top new.written.division.block new.written.block_count) (length o))) text' end
          → PutText text 0 (net_text o (ties ranks) B k) text' end
      unfolding lines
      put-prints {text} {text'} {end} p = subst (λ (printed : List ℕ). PutText text 0 printed text' end) prints p
