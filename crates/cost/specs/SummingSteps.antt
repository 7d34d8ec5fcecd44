-- The bound and the volume by the tables of a report: what each vertex adds, and the sums. No public call's contract speaks of them; the
-- crate cost shows that over a report's tables they are the bound and the volume of its own definitions, so that this crate need not
-- know of edges and blocks.
-- Assumes nothing.
use Rattle.std.specs.Prelude.{not, ◌&&◌, cond, List, ℕ, ◌-◌, eqb, length, get_or}
use Rattle.game.specs.Table.{tabulate, sum}
use Rattle.game.specs.Game.{absent}

-- what vertex x adds to the bound: its reach, if it is the top of its group and has a parent
unfoldable pub cut_reach : (x parent top reach : ℕ) → ℕ
cut_reach x parent top reach = cond (eqb top x && not (eqb parent absent)) reach 0

unfoldable pub bound_term : List ℕ → List ℕ → List ℕ → ℕ → ℕ
bound_term p top reach x = cut_reach x (get_or p x absent) (get_or top x 0) (get_or reach x 0)

unfoldable pub bound_by : List ℕ → List ℕ → List ℕ → ℕ
bound_by p top reach = sum (tabulate (length p) (bound_term p top reach))

-- and to the volume
unfoldable pub volume_term : List ℕ → ℕ → ℕ
volume_term block_count x = get_or block_count x 0 - 1

unfoldable pub volume_by : List ℕ → ℕ
volume_by block_count = sum (tabulate (length block_count) (volume_term block_count))
