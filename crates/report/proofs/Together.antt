-- The blocks of every accepted report, laid together again, are the net.
-- Assumes nothing.
use mathlib.Core.Path.{◌≡◌, sym, ap, subst, ◌∙◌}
use mathlib.Core.List.{List}
use Prim.Native.Nat.{ℕ, ◌<◌}
use native.Mathlib.Omega.{arith}
use lib.ListN.{length}
use Rattle.game.specs.Edge.{ties, edges}
use Rattle.game.specs.Game.{forest}
use Rattle.game.specs.Net.{Net, net_of}
use Rattle.refusal.specs.Verdict.{accepted}
use Rattle.refusal.proofs.Ends.{accepted-none}
use Rattle.refusal.proofs.First.{first-none, unless-accepted}
use Rattle.game.proofs.Edges.{edges-ties}
use Rattle.divide.specs.Divide.{divided}
use Rattle.divide.proofs.Refused.{divide-known}
use Rattle.cost.specs.declared.Totals.{Totals}
use Rattle.cost.specs.Laid.{Together}
use Rattle.cost.proofs.Laid.{Takes, blocks-laid-together, block-charges}
use Rattle.compare.specs.Compare.{unlike}
use Rattle.report_write.specs.Written.{Written, figures}
use Rattle.report_refusal.specs.Refused.{report_early}
use Rattle.report.specs.Report.{Lent, wrong_lent, report_refusal, report_outcome}
use Rattle.compare.proofs.Unlike.{passed-same, passed-forest}
use Rattle.report.proofs.Refused.{ready}

module _ (of : Net) (B k : ℕ) (xs : List ℕ) (was : Lent) {totals : Totals} (answer : (report_outcome of B k xs was).verdict ≡ accepted totals) where
  pub passed : (report_early of B k xs (wrong_lent of k xs was) ≡ 0) × (unlike of (ties xs) ≡ 0)
  unfolding report_outcome report_refusal
  passed =
      let early = first-none _ _ (accepted-none (report_refusal of B k xs was) _ answer) in
      (early.0, (first-none _ _ early.1).0)

  -- there is a block
  pub some_block : 0 < k
  some_block =
      let d = divide-known of.parents of.weights B k was.written.division (ready of B k xs was passed.0).divides in
      omega (arith, d.tables.some, d.blocks)

  -- the ties are the net's own
  pub own : of ≡ net_of (length of.parents) (ties xs)
  own = passed-same of (ties xs) passed.1

  pub own-forest : of.parents ≡ forest (length of.parents) (edges xs)
  own-forest = passed-forest of xs passed.1

  -- what is written are the figures
  pub written-figures : (report_outcome of B k xs was).tables.written ≡ figures of B k (edges xs)
  unfolding report_outcome
  written-figures =
      ap (λ (t : Lent). t.written) (unless-accepted _ was _ passed.0) ∙ unless-accepted _ was.written (figures of B k (edges xs)) passed.1

  -- of the division, those of the division
  pub written-division : (report_outcome of B k xs was).tables.written.division ≡ divided of B k
  unfolding figures
  written-division = ap (λ (w : Written). w.division) written-figures

  -- "laid together again, are the net", and the load of each block is what its ties are charged
  pub report-together : Together of (ties xs) k (report_outcome of B k xs was).tables.written.division
  report-together =
      let r = ready of B k xs was passed.0 in
      let d = divide-known of.parents of.weights B k was.written.division r.divides in
      let takes : Takes (length of.parents) (ties xs) = record { faultless = r.faultless; few = omega (arith, edges-ties xs, r.few) } in
      let any : 0 < length of.parents = r.some in
      subst (Together of (ties xs) k) (sym written-division)
      (record {
        net = λ js order tables p w lots fit. blocks-laid-together (ties xs) of d.net.few takes own B k some_block any d.net.small order tables p w lots fit;
        loads = block-charges (ties xs) of d.net.few takes own B k some_block d.net;
      })
