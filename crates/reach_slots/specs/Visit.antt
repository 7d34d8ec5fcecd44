-- What the count over the slots starts from: the edges of a net filed in slots that are laid out along its forest, marked, and
-- the tables of the count empty.
-- Assumes nothing.
use Rattle.std.specs.Prelude.{◌≡◌, ℕ, ◌≤◌, ◌<◌, length, get_or}
use mathlib.Core.List.{List, Memᴰ}
use Rattle.game.specs.Edge.{Edge, ◌─◌}
use Rattle.game.specs.Game.{absent}
use Rattle.game.proofs.Climbs.{Climbs}
use Rattle.refusal.specs.Limits.{max_edges}
use Rattle.reach_slots.specs.Jumps.{Jumps}
use Rattle.reach_slots.specs.Layout.{Layout}
use Rattle.reach_slots.specs.InSlots.{upward, InSlots, Marked}

-- the edges of es stand in the slots, and each goes up the forest
pub record Slotted (p w : List ℕ) (es : List Edge) (filed stops ends first slots : List ℕ) : Type 0 where
  pub layout : Layout p w stops ends (length slots)
  pub content : InSlots es w stops filed
  pub marked : Marked w stops filed first slots
  pub climb : (x y : ℕ) → Memᴰ (x ─ y) (upward es) → (x < y) × (y < length p) × Climbs p y x
  pub few : length slots ≤ max_edges
  pub entries : (length w ≡ length p) × (length first ≡ length p)

-- nothing is counted yet
pub record Empty (p ends ancestor previous overlaps : List ℕ) : Type 0 where
  pub jumps : Jumps p ends ancestor 0
  pub previous_entries : length previous ≡ length p
  pub overlaps_entries : length overlaps ≡ length p
  pub none : (y : ℕ) → y < length p → get_or previous y 0 ≡ absent
  pub zero : (x : ℕ) → x < length p → get_or overlaps x 0 ≡ 0
