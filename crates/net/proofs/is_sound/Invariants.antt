use lib.ListN.{length}
use mathlib.Core.Path.{◌≡◌}
use Rattle.net.proofs.Scan.{Scanned}
use Rattle.net.proofs.is_sound.Given as goal

abbrev pub invariant-loop-i : goal.invariant-loop-i
invariant-loop-i l = (l.n ≡ length l.parents) × Scanned l.parents l.i l.sound
