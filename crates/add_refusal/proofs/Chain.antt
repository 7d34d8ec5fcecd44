-- What the check goes by where reading the tables returns at the first of its tests that applies, and what the later tests may take for
-- granted.
-- Assumes nothing.
use mathlib.Core.Path.{◌≡◌}
use mathlib.Core.Bool.{false}
use mathlib.Core.List.{List}
use Prim.Native.Nat.{ℕ, ◌≤◌}
use Rattle.game.proofs.Edges.{edges-length}
use Rattle.refusal.specs.Limits.{max_vertices, max_total}
use Rattle.refusal.specs.Refusal.{bad_count}
use Rattle.refusal.proofs.First.{pass, stop, first-end, right-length, wrong-length, good-count}
use Rattle.net.specs.Damage.{damaged_by}
use Rattle.net.proofs.Scan.{undamaged}
use Rattle.growth.proofs.Tests.{work-length, damage}

pub few : (n : ℕ) → bad_count n ≡ false → n ≤ max_vertices
few n e = (good-count n e).1

pub light : (p : List ℕ) (t : ℕ) → damaged_by p t ≡ false → t ≤ max_total
light p t e = (undamaged p t e).1

pub ruleset early_returns = (pass, stop, first-end, right-length, wrong-length, work-length, damage, few, light, edges-length)
