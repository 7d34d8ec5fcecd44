use mathlib.Core.Path.{ap, ◌∙◌}
use Prim.Native.Nat.{ℕ}
use lib.ListN.{replicate}
use Rattle.game.specs.Game.{absent}
use native.Mathlib.Omega.{arith}
use Rattle.growth.proofs.NewParents.{new-whole}
use Rattle.growth.proofs.ReadUpTo.{read_kept}
use Rattle.growth.proofs.raising.grow_kept.Goals as goal

pub raise-requires : goal.raise-requires
raise-requires c =
    let g = c.requires in
    record {
      long = g.long;
      blank_jump = c.fill.ensures.after (λ y e. e) ∙ ap (λ (n : ℕ). replicate n absent) g.long_jump;
      buckets = g.buckets;
    }

pub returns : goal.returns
returns c =
    let g = c.requires in
    let r = c.raise.ensures.0 in
    record {
      grown = record {
        parents = λ E k f i. new-whole (omega (arith, g.buckets.few)) k g.long (c.raise.auto.parents ∙ g.long) i r.untouched (r.raised E k f);
      };
      kept = read_kept r.leaves;
    }
