-- What is known of the tables where starting is not refused.
-- Assumes nothing.
use mathlib.Core.Path.{◌≡◌}
use Prim.Native.Nat.{◌≤◌, ◌<◌}
use lib.ListN.{length}
use Rattle.game.specs.Net.{Net}
use Rattle.refusal.specs.Limits.{max_vertices}
use Rattle.refusal.proofs.First.{first-none, given-none, good-count, length-right}
use Rattle.start.specs.Start.{start_refusal}

-- starting: few vertices, and tables that fit
pub record Startable (of : Net) : Type 0 where
  pub some : 0 < length of.parents
  pub few : length of.parents ≤ max_vertices
  pub long : length of.weights ≡ length of.parents

pub startable : (of : Net) → start_refusal of ≡ 0 → Startable of
unfolding start_refusal
startable of z =
    let a = first-none _ _ z in
    let b = first-none _ _ a.1 in
    let n = good-count (length of.parents) (given-none _ _ a.0) in
    record { some = n.0; few = n.1; long = length-right _ _ (given-none _ _ b.0) }
