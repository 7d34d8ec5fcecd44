-- Pointers up the forest, compressed as in a union-find. The slots are gone over in order, and the subtree of a vertex z is
-- over at slot k if its stretch ends at k or before: ends z ≤ k. A pointer may pass only vertices whose subtree is over.
-- Assumes nothing.
use Rattle.std.specs.Prelude.{◌≡◌, ◌≢◌, List, ℕ, ◌<◌, length, get_or}
use Rattle.game.specs.Game.{absent}
use Rattle.game.proofs.Sound.{Sound}
use Rattle.game.proofs.Climbs.{Climbs}

-- from x one may go on to q: it is above x, and every vertex above x that is not over is at or above q
pub record Jump (p ends : List ℕ) (k x q : ℕ) : Type 0 where
  pub higher : x < q
  pub climb : Climbs p q x
  pub passed : (z : ℕ) → x < z → Climbs p z x → k < get_or ends z 0 → Climbs p z q

-- every pointer of a vertex that has a parent is such a jump
pub record Jumps (p ends ancestor : List ℕ) (k : ℕ) : Type 0 where
  pub sound : Sound p
  pub entries : length ancestor ≡ length p
  pub each : (x : ℕ) → x < length p → get_or p x absent ≢ absent → Jump p ends k x (get_or ancestor x 0)

-- r is the lowest vertex at or above v that is not over
pub record Lowest (p ends : List ℕ) (k v r : ℕ) : Type 0 where
  pub climb : Climbs p r v
  pub unfinished : k < get_or ends r 0
  pub least : (z : ℕ) → Climbs p z v → k < get_or ends z 0 → Climbs p z r

-- y is not over, and v is absent or under y
pub record Under (p ends : List ℕ) (k v y : ℕ) : Type 0 where
  pub entries : length ends ≡ length p
  pub inside : y < length p
  pub unfinished : k < get_or ends y 0
  pub lower : v ≢ absent → Climbs p y v

-- the lowest vertex at or above v that is not over, or y where v is absent
pub record Found (p ends : List ℕ) (k v y r : ℕ) : Type 0 where
  pub inside : r < length p
  pub none : v ≡ absent → r ≡ y
  pub lowest : v ≢ absent → Lowest p ends k v r
