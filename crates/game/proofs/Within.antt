-- Ways to show that one graph is within another: its edges are the other's, or each edge as it is written is a walk, or, in a
-- proper graph, each edge from its lower end.
-- Assumes nothing.
use mathlib.Core.Path.{refl}
use mathlib.Core.Logic.{◌≢◌, by_cases}
use mathlib.Core.List.{List, Memᴰ}
use Prim.Native.Nat.{ℕ, ◌<◌, max}
use native.Mathlib.Nat.{le-max_left, le-max_right, max_comm}
use native.Mathlib.Decide.{dec_lt}
use native.Mathlib.Omega.{arith}
use Rattle.game.specs.Edge.{Edge, ◌─◌}
use Rattle.game.proofs.Conn.{Conn, stay, go, conn-step, conn-sym, conn-up, linked-sym, Within}
use Rattle.game.specs.Graph.{Linked, forth, back, Proper}

-- a graph whose edges are edges of the other
pub within-linked : {g h : List Edge} → ((a b : ℕ) → Linked g a b → Linked h a b) → Within g h
within-linked f = record { each = λ a b l. conn-step (f a b l) (le-max_left a b) (le-max_right a b) }

-- each edge as it is written is a walk
pub within-edges : {g h : List Edge} → ((a b : ℕ) → Memᴰ (a ─ b) g → Conn h (max a b) a b) → Within g h
within-edges {g} {h} f = record { each = each }
  where
    each : (a b : ℕ) → Linked g a b → Conn h (max a b) a b
    each a b (forth m) = f a b m
    each a b (back m) = rw max_comm (conn-sym (f b a m))

-- each edge of a proper graph is a walk from its lower end
pub within-up : {n : ℕ} {g h : List Edge} → Proper n g → ((a b : ℕ) → a < b → Linked g a b → Conn h b a b) → Within g h
within-up p f = record {
  each = λ a b l. by_cases (dec_lt a b)
      (λ (k : a < b). conn-up (le-max_right a b) (f a b k l))
      (λ (k : ¬ (a < b)). let d : a ≢ b = (p.each a b l).2 in conn-up (le-max_left a b) (conn-sym (f b a (omega arith) (linked-sym l))));
}

-- a walk in a proper graph ends below n, if it ends elsewhere than it begins
pub conn-below : {n t a b : ℕ} {g : List Edge} → Proper n g → Conn g t a b → a ≢ b → b < n
conn-below p (stay h) d = absurd (d refl)
conn-below p (go {b = b} {c = c} w l h) d = (p.each b c l).1
