-- Lists whose ties stand by rising upper end, and what growing the forest of such a list asks. No public contract cites this.
-- Assumes nothing.
use Rattle.std.specs.Prelude.{◌≡◌, true, List, [], ◌∷◌, ℕ, ◌+◌, ◌*◌, ◌^◌, ◌≤◌, ◌<◌, length, get_or}
use Rattle.game.specs.Edge.{Tie, ties}
use Rattle.refusal.specs.Limits.{max_vertices, max_rows}
use Rattle.refusal.specs.Refusal.{fault}
use Rattle.bucket.specs.Ends.{end_of}

-- no tie of a list on n vertices has a fault, and no upper end is below the one before, the first not below `last`
pub data Rises (n : ℕ) : ℕ → List Tie → Type 0 where
  stop : {last : ℕ} → Rises n last []
  rise : {last : ℕ} {t : Tie} {ts : List Tie} → fault n t ≡ 0 → last ≤ end_of true t.edge → Rises n (end_of true t.edge) ts → Rises n last (t ∷ ts)

-- the list can be taken in: it rises, and no weight grows too large
pub record Takable (xs weights p : List ℕ) : Type 0 where
  pub rises : Rises (length p) 0 (ties xs)
  pub few : length p ≤ max_vertices
  pub long : length weights ≡ length p
  pub room : (v : ℕ) → get_or weights v 0 + max_rows * length (ties xs) < 2 ^ 32
