-- The bound and the volume as sums over the tables of a report.
-- Assumes nothing.
use mathlib.Core.Path.{◌≡◌, ap, ◌∙◌}
use mathlib.Core.Bool.{cond}
use mathlib.Core.List.{List}
use Prim.Native.Nat.{ℕ, ◌-◌}
use lib.ListN.{length, get_or}
use Rattle.game.specs.Table.{tabulate, sum}
use Rattle.game.specs.Edge.{Edge}
use Rattle.game.specs.Net.{reach}
use Rattle.game.proofs.Tables.{tabulate-length, tabulate-entry, tabulate-ext}
use Rattle.cost.specs.SummingSteps.{cut_reach, bound_term, bound_by, volume_term, volume_by}
use Rattle.block_count.specs.BlockCount.{block_count_of}
use Rattle.cost.specs.Figures.{is_cut, bound, volume}

-- the bound of the tables is the bound
pub bound-by : (p : List ℕ) (es : List Edge) (top : List ℕ) {reaches : List ℕ} → reaches ≡ tabulate (length p) (reach p es) → bound_by p top reaches ≡ bound p es top
unfolding bound_by bound_term cut_reach bound is_cut
bound-by p es top {reaches} e =
    ap sum
    (tabulate-ext (length p) (λ x. cond (is_cut p top x) (get_or reaches x 0) 0) (λ x. cond (is_cut p top x) (reach p es x) 0)
    (λ x h. ap (λ (v : ℕ). cond (is_cut p top x) v 0) (ap (λ (l : List ℕ). get_or l x 0) e ∙ tabulate-entry (length p) (reach p es) x 0 h)))

pub volume-by : (n k : ℕ) (block : List ℕ) (es : List Edge) {counts : List ℕ} → counts ≡ tabulate n (block_count_of k block es) → volume_by counts ≡ volume n k block es
unfolding volume_by volume_term volume
volume-by n k block es {counts} e =
    ap (λ (m : ℕ). sum (tabulate m (λ x. get_or counts x 0 - 1))) (ap length e ∙ tabulate-length n (block_count_of k block es))
    ∙ ap sum
    (tabulate-ext n (λ x. get_or counts x 0 - 1) (λ x. block_count_of k block es x - 1)
    (λ x h. ap (λ (v : ℕ). v - 1) (ap (λ (l : List ℕ). get_or l x 0) e ∙ tabulate-entry n (block_count_of k block es) x 0 h)))
