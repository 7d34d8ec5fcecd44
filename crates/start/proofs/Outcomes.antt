-- What an accepted start leaves is what its definition says.
-- Assumes nothing.
use mathlib.Core.Path.{◌≡◌, sym, ap, ap₂, ◌∙◌}
use mathlib.Core.List.{List, []}
use Prim.Native.Nat.{ℕ}
use lib.ListN.{length, replicate}
use Rattle.game.specs.Game.{absent}
use Rattle.game.specs.Net.{net, net_of}
use Rattle.game.proofs.Forest.{forest-empty}
use Rattle.game.proofs.Weights.{weights-empty}

-- tables without parents and weights are the net of no edge
pub start-ends : (p w : List ℕ) {p' w' : List ℕ} → length w ≡ length p → p' ≡ replicate (length p) absent → w' ≡ replicate (length w) 0 → net p' w' ≡ net_of (length p) []
unfolding net_of
start-ends p w e f g =
    ap₂ net (f ∙ sym (forest-empty (length p))) (g ∙ ap (λ (n : ℕ). replicate n 0) e ∙ sym (weights-empty (length p)))
