-- What putting edges into a table one by one promises. No public contract cites this.
-- Assumes nothing.
use Rattle.std.specs.Prelude.{◌≡◌, true, List, [], ◌∷◌, ◌++◌, ℕ, ◌≤◌, ◌<◌, length, drop}
use Rattle.game.specs.Edge.{Edge, ◌─◌, edges}
use Rattle.game.specs.Graph.{Proper}
use Rattle.game.specs.Tree.{links, sound}
use Rattle.game.proofs.Conn.{Within}
use Rattle.refusal.specs.Limits.{max_vertices}
use Rattle.moved.specs.Steps.{Fallen}

-- two graphs join the same vertices at the same heights, so their forests are the same
pub record Alike (g h : List Edge) : Type 0 where
  pub there : Within g h
  pub back : Within h g

-- a table's links and an edge that is not in it yet
unfoldable pub pending : List ℕ → Edge → List Edge
pending p e = links p ++ (e ∷ [])

-- a sound table of few vertices
pub record Table (p : List ℕ) : Type 0 where
  pub few : length p ≤ max_vertices
  pub sound : sound p ≡ true

-- an exchange promises a sound table and an edge that starts higher, alike with what came in
pub record Exchanged (p : List ℕ) (low high : ℕ) (p' : List ℕ) (low' high' : ℕ) : Type 0 where
  pub same : length p' ≡ length p
  pub sound : sound p' ≡ true
  pub higher : low < low'
  pub order : low' ≤ high'
  pub inside : high' < length p
  pub alike : Alike (pending p' (low' ─ high')) (pending p (low ─ high))

-- a step of putting promises that parents only fall: from the lowest vertex that has fallen before it, the lowest that has after it
pub record Lowers (p : List ℕ) (m : ℕ) (p' : List ℕ) (m' : ℕ) : Type 0 where
  pub fallen : (was : List ℕ) → Fallen was p m → Fallen was p' m'

-- putting the edge e in promises a sound table that is alike with the old one and the edge, in few steps
pub record PutEdge (p : List ℕ) (e : Edge) (p' : List ℕ) (steps : ℕ) : Type 0 where
  pub same : length p' ≡ length p
  pub sound : sound p' ≡ true
  pub alike : Alike (links p') (pending p e)
  pub quick : steps ≤ length p

-- putting in the first i edges of a list promises a sound table that is alike, with those that are left
pub record PutUpTo (p xs p' : List ℕ) (i : ℕ) : Type 0 where
  pub same : length p' ≡ length p
  pub sound : sound p' ≡ true
  pub proper : Proper (length p) (drop i (edges xs))
  pub inside : i ≤ length (edges xs)
  pub alike : Alike (links p' ++ drop i (edges xs)) (links p ++ edges xs)
