-- What lies between two vertices separates them: the law of every accepted call.
--
-- Document 02, Paper 5: "Every chain of ties from one to the other passes a mark of the list. Marks in separate trees have an empty list, and
-- there is then no chain."
-- Assumes nothing.
use Rattle.std.specs.Prelude.{◌≡◌, ℕ, ◌+◌, ◌<◌, Option, None, Some, length, get_or}
use mathlib.Core.List.{List, [], ◌∷◌, Memᴰ}
use Rattle.game.specs.Edge.{Edge}
use Rattle.game.specs.Graph.{Linked}
use Rattle.game.specs.Tree.{ancestors}

-- "chain of ties": a walk along edges from one vertex to another, with the vertices that it passes, both ends among them
pub data Walk (es : List Edge) : (from to : ℕ) → (passed : List ℕ) → Type 0 where
  here : {a : ℕ} → Walk es a a (a ∷ [])
  on : {a b c : ℕ} {vs : List ℕ} → Linked es a c → Walk es c b vs → Walk es a b (a ∷ vs)

-- the last of a list, or the vertex that stands before it
unfoldable pub last : ℕ → List ℕ → ℕ
last x [] = x
last x (y ∷ ys) = last y ys

-- the root of a vertex's tree: the last of its ancestors, or itself
unfoldable pub root : List ℕ → ℕ → ℕ
unfolding last ancestors
root p x = last x (ancestors p x)

-- of the parents and edges of a net, two vertices, and what is answered and listed of them
pub record Separates (p : List ℕ) (es : List Edge) (a b : ℕ) (lowest : Option ℕ) (ys : List ℕ) : Type 0 where
  -- the vertices above both, and no other
  pub above : (y : ℕ) → Memᴰ y ys → Memᴰ y (ancestors p a) × Memᴰ y (ancestors p b)
  pub all : (y : ℕ) → Memᴰ y (ancestors p a) → Memᴰ y (ancestors p b) → Memᴰ y ys
  pub lowest_first : (i : ℕ) → i + 1 < length ys → get_or ys i 0 < get_or ys (i + 1) 0
  -- the lowest is the first of the list; none, of an empty list
  pub lowest_listed : (y : ℕ) → lowest ≡ Some y → (0 < length ys) × (get_or ys 0 0 ≡ y)
  pub none_listed : lowest ≡ None → ys ≡ []
  -- which is that of two vertices in separate trees
  pub apart_none : (root p a ≡ root p b → ⊥) → lowest ≡ None
  pub none_apart : lowest ≡ None → root p a ≡ root p b → ⊥
  -- every walk from one to the other passes a vertex of the list; if it is empty, there is no walk
  pub passes : (vs : List ℕ) → Walk es a b vs → (y : ℕ) × Memᴰ y vs × Memᴰ y ys
  pub no_walk : ys ≡ [] → (vs : List ℕ) → Walk es a b vs → ⊥
