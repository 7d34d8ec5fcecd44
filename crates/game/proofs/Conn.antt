-- The one relation that carries every law of forests: two vertices joined by a walk that stays at or below a height.
-- The parent of x is the least y above x that is so joined to x at height y, whatever graph the walk is in; so two graphs that
-- join the same vertices at the same heights have the same forest.
-- Assumes nothing.
use mathlib.Core.Logic.{◌⊎◌, inl, inr, ⊎_elim}
use mathlib.Core.List.Memᴰ
use mathlib.Core.List.{List, ◌++◌}
use Prim.Native.Nat.{ℕ, ◌≤◌, max}
use native.Mathlib.Nat.{le_trans, le-max_left, le-max_right}
use native.Mathlib.Omega.{arith}
use Rattle.game.specs.Edge.{Edge}
use Rattle.game.specs.Graph.{Linked, forth, back}

-- a walk from a in the graph g over vertices at most t
pub data Conn (g : List Edge) (t a : ℕ) : ℕ → Type 0 where
  stay : a ≤ t → Conn g t a a
  go : {b c : ℕ} → Conn g t a b → Linked g b c → c ≤ t → Conn g t a c

-- each edge of g is a walk in h that stays at or below the edge's upper end
pub record Within (g h : List Edge) : Type 0 where
  pub each : (a b : ℕ) → Linked g a b → Conn h (max a b) a b

pub linked-sym : {g : List Edge} {a b : ℕ} → Linked g a b → Linked g b a
linked-sym (forth m) = back m
linked-sym (back m) = forth m

pub linked-left : {g : List Edge} {a b : ℕ} (h : List Edge) → Linked g a b → Linked (g ++ h) a b
linked-left h (forth m) = forth (Memᴰ.append_left h m)
linked-left h (back m) = back (Memᴰ.append_left h m)

pub linked-right : (g : List Edge) {h : List Edge} {a b : ℕ} → Linked h a b → Linked (g ++ h) a b
linked-right g (forth m) = forth (Memᴰ.append_right g m)
linked-right g (back m) = back (Memᴰ.append_right g m)

pub linked-cases : (g : List Edge) {h : List Edge} {a b : ℕ} → Linked (g ++ h) a b → Linked g a b ⊎ Linked h a b
linked-cases g (forth m) = ⊎_elim (λ l. inl (forth l)) (λ r. inr (forth r)) (Memᴰ.append_cases g m)
linked-cases g (back m) = ⊎_elim (λ l. inl (back l)) (λ r. inr (back r)) (Memᴰ.append_cases g m)

pub conn-from : {g : List Edge} {t a b : ℕ} → Conn g t a b → a ≤ t
conn-from (stay h) = h
conn-from (go c l h) = conn-from c

pub conn-to : {g : List Edge} {t a b : ℕ} → Conn g t a b → b ≤ t
conn-to (stay h) = h
conn-to (go c l h) = h

pub conn-trans : {g : List Edge} {t a b c : ℕ} → Conn g t a b → Conn g t b c → Conn g t a c
conn-trans p (stay h) = p
conn-trans p (go q l h) = go (conn-trans p q) l h

pub conn-step : {g : List Edge} {t a b : ℕ} → Linked g a b → a ≤ t → b ≤ t → Conn g t a b
conn-step l ha hb = go (stay ha) l hb

pub conn-sym : {g : List Edge} {t a b : ℕ} → Conn g t a b → Conn g t b a
conn-sym (stay h) = stay h
conn-sym (go c l h) = conn-trans (conn-step (linked-sym l) h (conn-to c)) (conn-sym c)

pub conn-up : {g : List Edge} {t u a b : ℕ} → t ≤ u → Conn g t a b → Conn g u a b
conn-up le (stay h) = stay (le_trans h le)
conn-up le (go c l h) = go (conn-up le c) l (le_trans h le)

pub conn-map : {g h : List Edge} → ((a b : ℕ) → Linked g a b → Linked h a b) → {t a b : ℕ} → Conn g t a b → Conn h t a b
conn-map f (stay h) = stay h
conn-map f (go {b = b} {c = c} p l h) = go (conn-map f p) (f b c l) h

pub within-conn : {g h : List Edge} {t a b : ℕ} → Within g h → Conn g t a b → Conn h t a b
within-conn w (stay h) = stay h
within-conn {t = t} w (go {b = b} {c = c} p l h) =
    let below : max b c ≤ t = omega (arith, conn-to p) in
    conn-trans (within-conn w p) (conn-up below (w.each b c l))

pub within-refl : (g : List Edge) → Within g g
within-refl g = record { each = λ a b l. conn-step l (le-max_left a b) (le-max_right a b) }

pub within-trans : {g h k : List Edge} → Within g h → Within h k → Within g k
within-trans w v = record { each = λ a b l. within-conn v (w.each a b l) }

pub within-left : (g h : List Edge) → Within g (g ++ h)
within-left g h = record { each = λ a b l. conn-step (linked-left h l) (le-max_left a b) (le-max_right a b) }

pub within-right : (g h : List Edge) → Within h (g ++ h)
within-right g h = record { each = λ a b l. conn-step (linked-right g l) (le-max_left a b) (le-max_right a b) }

pub within-append : {g h k : List Edge} → Within g k → Within h k → Within (g ++ h) k
within-append {g = g} w v = record { each = λ a b l. ⊎_elim (λ p. w.each a b p) (λ p. v.each a b p) (linked-cases g l) }

pub within_both : {g g' h h' : List Edge} → Within g g' → Within h h' → Within (g ++ h) (g' ++ h')
within_both {g' = g'} {h' = h'} w v =
    within-append (within-trans w (within-left g' h')) (within-trans v (within-right g' h'))
