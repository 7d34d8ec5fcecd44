-- Edge lists as graphs: which vertices an edge links, which lists are graphs on n vertices, and when two lists are the same graph.
-- Document 01: "A tie is an unordered pair of two ranks. Ties may repeat."; "the same ties in any other order".
-- Assumes nothing.
use Rattle.std.specs.Prelude.{◌≢◌, ℕ, ◌<◌}
use mathlib.Core.List.{List, [], ◌∷◌, Memᴰ}
use Rattle.game.specs.Edge.{Edge, ◌─◌, Tie, tie_of}

-- an edge of the graph has these two ends, written either way round
pub data Linked (g : List Edge) (a b : ℕ) : Type 0 where
  forth : Memᴰ (a ─ b) g → Linked g a b
  back : Memᴰ (b ─ a) g → Linked g a b

-- a graph on n vertices: every end is below n, and no edge links a vertex with itself
pub record Proper (n : ℕ) (g : List Edge) : Type 0 where
  pub each : (a b : ℕ) → Linked g a b → (a < n) × (b < n) × (a ≢ b)

-- an edge, and a tie, written the other way round
abbrev pub turn : Edge → Edge
turn (a ─ b) = b ─ a

abbrev pub turn_tie : Tie → Tie
turn_tie t = tie_of (turn t.edge) t.rows

-- the same entries in any order, each as it is or turned
pub data SameEntries {A : Type 0} (turned : A → A) : List A → List A → Type 0 where
  nil : SameEntries turned [] []
  keep : {e : A} {es fs : List A} → SameEntries turned es fs → SameEntries turned (e ∷ es) (e ∷ fs)
  flip : {e : A} {es fs : List A} → SameEntries turned es fs → SameEntries turned (e ∷ es) (turned e ∷ fs)
  swap : {e f : A} {es : List A} → SameEntries turned (e ∷ f ∷ es) (f ∷ e ∷ es)
  trans : {es fs gs : List A} → SameEntries turned es fs → SameEntries turned fs gs → SameEntries turned es gs

-- the same edges, in any order and each either way round
abbrev pub Same : List Edge → List Edge → Type 0
Same es fs = SameEntries turn es fs

-- the same ties: each keeps its rows
abbrev pub SameTies : List Tie → List Tie → Type 0
SameTies ts us = SameEntries turn_tie ts us
