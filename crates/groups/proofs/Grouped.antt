-- What cutting and climbing leave together: the groups.
-- Assumes nothing.
use mathlib.Core.Path.{◌≡◌}
use mathlib.Core.List.{List}
use Prim.Native.Nat.{ℕ, ◌≤◌}
use native.Mathlib.Omega.{arith}
use lib.ListN.{length}
use Rattle.game.specs.Game.{absent}
use Rattle.game.proofs.Sound.{Sound, sound-true}
use Rattle.cut.specs.Cut.{cut}
use Rattle.cut.specs.Steps.{Divisible, Cuts, Hanging, Tops, Grouped}
use Rattle.groups.proofs.Climbing.{hanging-up, climbed-tops}

module _ {p w : List ℕ} {B : ℕ} (d : Divisible p w B) where
  s : Sound p
  s = sound-true p d.known

  u : length p ≤ absent
  u = omega (arith, d.few)

  module _ {now link : List ℕ} (c : Cuts p w B now link) (e : length link ≡ length p) where
    pub cuts-hanging : Hanging link
    cuts-hanging = hanging-up s u (cut p w B) link e c.held

    pub cuts-grouped : {tops : List ℕ} → Tops link tops → length tops ≡ length link → Grouped p w B now tops
    cuts-grouped t f = record { weights = c.table; table = climbed-tops s u (cut p w B) link e c.held t f }
