-- Tables that are summed up along a forest: the entry of a vertex is its own share and the entries of its children, less what
-- a second table takes off. The reaches of a net are such a table.
-- Assumes nothing.
use Rattle.std.specs.Prelude.{◌≡◌, cond, List, [], ℕ, zero, suc, ◌+◌, ◌≤◌, ◌<◌, eqb, length, get_or}
use Rattle.game.specs.Game.{absent}
use Rattle.game.specs.Table.{sum}
use Rattle.game.proofs.Sound.{Sound}
use Rattle.refusal.specs.Limits.{max_vertices, max_edges}

-- the entries of a table, 0 past its end
abbrev pub entry_of : List ℕ → ℕ → ℕ
entry_of t x = get_or t x 0

-- what f gives at the children of x among the vertices below i, summed; the children of `absent` are the roots
unfoldable pub child_sum : List ℕ → (ℕ → ℕ) → ℕ → ℕ → ℕ
child_sum p f zero x = 0
child_sum p f (suc i) x = child_sum p f i x + cond (eqb (get_or p i absent) x) (f i) 0

-- f at each vertex, with what is taken off there, is the vertex's own share and f at its children, all of which are below it
pub record Balanced (p own less : List ℕ) (f : ℕ → ℕ) : Type 0 where
  pub each : (x : ℕ) → x < length p → f x + get_or less x 0 ≡ get_or own x 0 + child_sum p f x x

-- shares that can be summed up: a sound forest, and few enough
pub record Summable (p own : List ℕ) : Type 0 where
  pub sound : Sound p
  pub short : length p ≤ max_vertices
  pub entries : length own ≡ length p
  pub few : sum own ≤ max_edges

-- the count of each subtree, by the counts of the vertices; the roots have all, which is m
pub record Subtrees (p w : List ℕ) (size : ℕ → ℕ) (m : ℕ) : Type 0 where
  pub sound : Sound p
  pub short : length p ≤ absent
  pub counts : length w ≡ length p
  pub balance : Balanced p w [] size
  pub roots : child_sum p size (length p) absent ≡ m
