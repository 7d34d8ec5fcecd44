-- What is known of a net and of work tables that are not refused.
-- Assumes nothing.
use mathlib.Core.Path.{◌≡◌}
use mathlib.Core.Bool.{false}
use Prim.Native.Nat.{ℕ, ◌≤◌, ◌<◌}
use lib.ListN.{length}
use Rattle.game.specs.Net.{Net, total}
use Rattle.game.proofs.Sound.{Sound}
use Rattle.refusal.specs.Limits.{max_vertices, max_total}
use Rattle.refusal.specs.Refusal.{bad_count, wrong_length}
use Rattle.refusal.proofs.First.{good-count, length-right}
use Rattle.net.specs.Damage.{damaged}
use Rattle.net.proofs.Scan.{undamaged}
use Rattle.growth.specs.Work.{Work, bad_work}
use Rattle.growth.proofs.Rooms.{good-work}

-- a net of few vertices whose tables fit and are not damaged
pub record Whole (of : Net) : Type 0 where
  pub some : 0 < length of.parents
  pub few : length of.parents ≤ max_vertices
  pub long : length of.weights ≡ length of.parents
  pub sound : Sound of.parents
  pub light : total of ≤ max_total

-- work tables for n vertices and m edges and links
pub record Room (n m : ℕ) (w : Work) : Type 0 where
  pub ends : length w.ends ≡ n
  pub jump : length w.jump ≡ n
  pub lower : length w.lower ≡ m

pub room : (n m : ℕ) (w : Work) → bad_work n m w ≡ false → Room n m w
room n m w e = let g = good-work n m w e in record { ends = g.0; jump = g.1; lower = g.2 }

pub whole : (of : Net) → bad_count (length of.parents) ≡ false → wrong_length (length of.weights) (length of.parents) ≡ false → damaged of ≡ false → Whole of
unfolding damaged
whole of b l d =
    let k = undamaged of.parents (total of) d in
    let n = good-count (length of.parents) b in
    record { some = n.0; few = n.1; long = length-right _ _ l; sound = k.0; light = k.1 }
