-- A net that is grown goes on to its report.
-- Assumes nothing.
use mathlib.Core.Path.{◌≡◌, sym, ap, ap₂, subst, ◌∙◌}
use mathlib.Core.Bool.{false}
use mathlib.Core.List.{List}
use Prim.Native.Nat.{ℕ}
use native.Mathlib.Omega.{arith}
use lib.ListN.{length}
use Rattle.game.specs.Edge.{ties}
use Rattle.game.specs.Net.{Net, net, net_of}
use Rattle.relabel.specs.Relabel.{relabelled}
use Rattle.refusal.specs.DivisionLimits.{bad_limits}
use Rattle.decimal.specs.Put.{PutText}
use Rattle.run_report.specs.Steps.{Runnable, RankedNet, Ready, net_text}
use Rattle.run_report.proofs.Growing.{ranked-count, ranked-whole, ranked-faultless}

-- what was grown, read again from the tables that it stands in
pub grown-again : {o xs ranks p w ranks' p' w' : List ℕ} → RankedNet o xs ranks (net p w) → ranks' ≡ ranks → p' ≡ p → w' ≡ w → RankedNet o xs ranks' (net p' w')
grown-again g er ep ew = record { ranked = er ∙ g.ranked; net = ap₂ net ep ew ∙ g.net }

module _ {o xs ranks : List ℕ} {grown : Net} (r : Runnable o xs) (g : RankedNet o xs ranks grown) where
  pub to-report : {B k : ℕ} → bad_limits B k ≡ false → Ready o ranks B k grown
  to-report good =
      record {
        some = r.some;
        vertices = r.vertices;
        few = omega (arith, ranked-count r g.ranked, r.few);
        all = ranked-whole r g.ranked;
        faultless = ranked-faultless r g.ranked;
        limits = good;
        own = g.net ∙ ap (λ (ys : List ℕ). net_of (length o) (ties ys)) (sym g.ranked);
      }

  pub put-ranked : (B k : ℕ) {text text' : List ℕ} {end : ℕ} → PutText text 0 (net_text o (ties ranks) B k) text' end
      → PutText text 0 (net_text o (ties (relabelled o xs)) B k) text' end
  put-ranked B k {text} {text'} {end} p = subst (λ (ys : List ℕ). PutText text 0 (net_text o (ties ys) B k) text' end) g.ranked p
