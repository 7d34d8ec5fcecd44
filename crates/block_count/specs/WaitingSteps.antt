-- What vertices wait for, and what going over the list promises, step by step. No contract of a call speaks of it.
-- Assumes nothing.
use Rattle.std.specs.Prelude.{◌≡◌, Bool, not, cond, List, [], ◌∷◌, map, ℕ, ◌+◌, ◌-◌, ◌^◌, ◌≤◌, ◌<◌, eqb, ltb, length, get_or, set}
use Rattle.game.specs.Table.{one_if, sum}
use Rattle.game.specs.Edge.{Edge, lower, touches}
use Rattle.game.specs.Graph.{Proper}
use Rattle.refusal.specs.Limits.{max_vertices}

-- what stands for the edge of its own block that a vertex waits for
abbrev pub unmet : ℕ
unmet = 2_147_483_648

-- what is waited for when an edge has come, which leads down or not, and is of the vertex's own block or not
unfoldable pub next_pending : (down own : Bool) → ℕ → ℕ
next_pending down own pending =
    cond (ltb pending unmet) (pending - one_if down) ((pending - unmet) - one_if down + cond own 0 unmet)

-- the same, of an edge with the lower end `low`, at its end x
unfoldable pub next_at : List ℕ → (x low : ℕ) → ℕ → ℕ
next_at block x low pending = next_pending (not (eqb x low)) (eqb (get_or block x 0) (get_or block low 0)) pending

-- 1 if something is waited for, else 0
unfoldable pub waiting : ℕ → ℕ
waiting pending = cond (eqb pending 0) 0 1

unfoldable pub waiting_in : List ℕ → ℕ
waiting_in pending = sum (map waiting pending)

-- how many of a vertex's edges come until nothing is waited for
unfoldable pub waits : List ℕ → ℕ → ℕ → List Edge → ℕ
waits block x pending [] = 0
waits block x pending (e ∷ es) =
    cond (touches x e) (waiting pending + waits block x (next_at block x (lower e) pending) es) (waits block x pending es)

-- What taking an edge at an end is given, and what it does.
pub record Passable (x low : ℕ) (block pending taken : List ℕ) : Type 0 where
  pub inside : x < length block
  pub low_inside : low < length block
  pub pending_long : length pending ≡ length block
  pub taken_long : length taken ≡ length block
  pub small : get_or taken x 0 + waiting (get_or pending x 0) < 2 ^ 32

pub record Passes (x low : ℕ) (block pending taken pending' taken' : List ℕ) (r : ℕ) : Type 0 where
  pub passed : pending' ≡ set pending x (next_at block x low (get_or pending x 0))
  pub took : taken' ≡ set taken x (get_or taken x 0 + waiting (get_or pending x 0))
  pub settled : r + waiting (next_at block x low (get_or pending x 0)) ≡ waiting (get_or pending x 0)

-- What going over the list is given, and what it leaves.
pub record Sweepable (es : List Edge) (block pending taken : List ℕ) : Type 0 where
  pub few : length block ≤ max_vertices
  pub proper : Proper (length block) es
  pub pending_long : length pending ≡ length block
  pub taken_long : length taken ≡ length block
  pub small : (x : ℕ) → x < length block → get_or taken x 0 + waits block x (get_or pending x 0) es < 2 ^ 32

pub record Swept (es : List Edge) (block pending taken taken' : List ℕ) : Type 0 where
  pub each : (x : ℕ) → x < length block → get_or taken' x 0 ≡ get_or taken x 0 + waits block x (get_or pending x 0) es
