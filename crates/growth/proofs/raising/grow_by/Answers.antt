use mathlib.Core.Path.{refl, ap, ◌∙◌}
use Prim.Native.Nat.{ℕ}
use lib.ListN.{replicate}
use Rattle.game.specs.Game.{absent}
use Rattle.growth.proofs.NewParents.{new-whole}
use Rattle.growth.proofs.Moves.{moves-differ}
use Rattle.growth.proofs.Rooms.{same-room}
use Rattle.growth.proofs.ReadUpTo.{read-cleared}
use native.Mathlib.Omega.{arith}
use Rattle.growth.proofs.raising.grow_by.Goals as goal

pub raise-raising-requires : goal.raise-raising-requires
raise-raising-requires g c =
    let g = c.requires in
    record {
      long = g.long;
      blank_jump = c.fill.ensures.after (λ y e. e) ∙ ap (λ (n : ℕ). replicate n absent) g.long_jump;
      buckets = g.buckets;
    }

pub clear-requires : goal.clear-requires
clear-requires g c =
    let r = c.raise-raising.ensures.0.leaves in
    (omega (arith, r.inside, r.long), read-cleared r)

pub returns : goal.returns
returns g c =
    let r = c.raise-raising.ensures.0 in
    let g = c.requires in (
      record {
        grown = record { parents = λ E k f i. new-whole (omega (arith, g.buckets.few)) k g.long (c.raise-raising.auto.parents ∙ g.long) i r.untouched (r.raised E k f) };
        clear = c.clear.ensures ∙ same-room _ _ _ _ _ _ refl (c.raise-raising.auto.jump ∙ c.fill.auto.self) c.raise-raising.auto.lower;
      },
      moves-differ c.raise-raising.ensures.1,
    )
