use mathlib.Core.Path.{refl, ap, ◌∙◌}
use Prim.Native.Nat.{ℕ}
use native.Mathlib.Omega.{arith}
use lib.ListN.{replicate}
use Rattle.game.specs.Game.{absent}
use Rattle.refusal.proofs.Fault.{list-proper}
use Rattle.growth.proofs.NewParents.{new-whole, links-blank}
use Rattle.growth.proofs.Moves.{moves-differ}
use Rattle.growth.proofs.Rooms.{same-room}
use Rattle.rising.proofs.Rising.{rises-faultless}
use Rattle.rising.proofs.grow_list.Goals as goal

pub raise_list-moved-requires : goal.raise_list-moved-requires
raise_list-moved-requires c =
    let g = c.requires in
    (g.0, c.fill.ensures.after (λ y e. e) ∙ ap (λ (n : ℕ). replicate n absent) g.2)

pub returns : goal.returns
returns c =
    let (g, blank, long) = c.requires in
    let (raised, weighed, untouched, moves) = c.raise_list-moved.ensures in (
      new-whole (omega (arith, g.few)) (list-proper _ _ (rises-faultless g.rises)) refl c.raise_list-moved.auto.parents (links-blank _ blank) untouched raised,
      weighed,
      c.clear.ensures ∙ same-room _ _ _ _ _ _ refl (c.raise_list-moved.auto.jump ∙ c.fill.auto.self) refl,
      moves-differ moves,
    )
