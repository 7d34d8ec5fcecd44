-- Proper graphs on n vertices: every end is below n, and no edge joins a vertex with itself. Beside them, what the ends of an
-- edge say: of no edge at all, of one edge more, of one edge alone.
-- Assumes nothing.
use mathlib.Core.Path.{◌≡◌, refl, ap₂}
use mathlib.Core.Logic.{◌≢◌, ◌⊎◌, inl, inr, ⊎_elim}
use mathlib.Core.List.Memᴰ
use mathlib.Core.List.{List, [], ◌∷◌, ◌++◌}
use Prim.Native.Nat.{ℕ, ◌<◌}
use native.Mathlib.Omega.{arith}
use Rattle.game.specs.Edge.{Edge, ◌─◌}
use Rattle.game.specs.Graph.{Proper, Linked, forth, back}
use Rattle.game.proofs.Conn.{linked-left, linked-right, linked-cases}

-- two ends named the one way round or the other
pub data Ends (a b x y : ℕ) : Type 0 where
  same : x ≡ a → y ≡ b → Ends a b x y
  turned : x ≡ b → y ≡ a → Ends a b x y

pub ends-turn : {a b x y : ℕ} → Ends a b x y → Ends b a x y
ends-turn (same e f) = turned e f
ends-turn (turned e f) = same e f

-- an edge has its own ends
pub edge-left : {a b x y : ℕ} → (x ─ y) ≡ (a ─ b) → x ≡ a
edge-left e = cc

pub edge-right : {a b x y : ℕ} → (x ─ y) ≡ (a ─ b) → y ≡ b
edge-right e = cc

pub linked-nil : {a b : ℕ} → Linked [] a b → ⊥
linked-nil (forth m) = Memᴰ.not-nil m
linked-nil (back m) = Memᴰ.not-nil m

-- one edge more links its own ends, and what was linked
pub linked-cons : {a b x y : ℕ} {g : List Edge} → Linked ((a ─ b) ∷ g) x y → Ends a b x y ⊎ Linked g x y
linked-cons (forth m) = ⊎_elim (λ e. inl (same (edge-left e) (edge-right e))) (λ t. inr (forth t)) (Memᴰ.cases_cons m)
linked-cons (back m) = ⊎_elim (λ e. inl (turned (edge-right e) (edge-left e))) (λ t. inr (back t)) (Memᴰ.cases_cons m)

pub linked-tail : {x y : ℕ} {g : List Edge} (e : Edge) → Linked g x y → Linked (e ∷ g) x y
linked-tail e (forth m) = forth (Memᴰ.tail m)
linked-tail e (back m) = back (Memᴰ.tail m)

pub linked-ends : {a b x y : ℕ} (g : List Edge) → Ends a b x y → Linked ((a ─ b) ∷ g) x y
linked-ends g (same e f) = forth (Memᴰ.head (ap₂ ◌─◌ e f))
linked-ends g (turned e f) = back (Memᴰ.head (ap₂ ◌─◌ f e))

pub proper-nil : (n : ℕ) → Proper n []
proper-nil n = record { each = λ a b l. absurd (linked-nil l) }

pub proper-append : {n : ℕ} {g h : List Edge} → Proper n g → Proper n h → Proper n (g ++ h)
proper-append {g = g} p q = record { each = λ a b l. ⊎_elim (p.each a b) (q.each a b) (linked-cases g l) }

pub proper-left : {n : ℕ} (g h : List Edge) → Proper n (g ++ h) → Proper n g
proper-left g h p = record { each = λ a b l. p.each a b (linked-left h l) }

pub proper-right : {n : ℕ} (g h : List Edge) → Proper n (g ++ h) → Proper n h
proper-right g h p = record { each = λ a b l. p.each a b (linked-right g l) }

-- one edge more, with two different ends below n
pub proper-cons : {n a b : ℕ} {g : List Edge} → a < n → b < n → a ≢ b → Proper n g → Proper n ((a ─ b) ∷ g)
proper-cons {n} {a} {b} ha hb d p = record { each = λ x y l. ⊎_elim (ends x y) (p.each x y) (linked-cons l) }
  where
    ends : (x y : ℕ) → Ends a b x y → (x < n) × (y < n) × (x ≢ y)
    ends x y (same e f) = (omega arith, omega arith, omega arith)
    ends x y (turned e f) = (omega arith, omega arith, omega arith)

pub proper-head : {n a b : ℕ} {g : List Edge} → Proper n ((a ─ b) ∷ g) → (a < n) × (b < n) × (a ≢ b)
proper-head {a = a} {b = b} {g = g} p = p.each a b (linked-ends g (same refl refl))

pub proper-tail : {n : ℕ} {e : Edge} {g : List Edge} → Proper n (e ∷ g) → Proper n g
proper-tail {e = e} p = record { each = λ a b l. p.each a b (linked-tail e l) }
