-- The parent of x in the elimination game is the least vertex above x that is joined to x at its own height, and is absent if
-- there is none. No graph is looked at but through the relation Conn, so graphs that join alike have the same parents.
-- Assumes nothing.
use mathlib.Core.Path.{◌≡◌, refl, ◌∙◌}
use mathlib.Core.Logic.{◌≢◌, by_cases}
use mathlib.Core.List.Memᴰ
use mathlib.Core.List.{List, [], ◌∷◌, Memᴰ}
use Prim.Native.Nat.{ℕ, ◌≤◌, ◌<◌, min}
use native.Mathlib.Nat.{le_refl, le_of_lt, le_antisymm, le_trans, min-eq_left}
use native.Mathlib.Decide.{ℕ_discrete, dec_lt, dec_le}
use native.Mathlib.Omega.{arith}
use Rattle.game.specs.Edge.{Edge}
use Rattle.game.specs.Game.{absent, lowest, higher, filled, parent}
use Rattle.game.proofs.Conn.{Conn, stay, go, conn-step, Within, within-conn}
use Rattle.game.specs.Graph.{Linked}
use Rattle.game.proofs.Filled.{higher-linked, linked-higher, filled_within, Low, once, more, low-filled}

-- y is the least vertex above x that is joined to x at its own height, or absent if there is none
pub record LeastAbove (g : List Edge) (x y : ℕ) : Type 0 where
  pub above : y ≢ absent → x < y
  pub joined : y ≢ absent → Conn g y x y
  pub least : (z : ℕ) → x < z → Conn g z x z → y ≤ z
  pub small : y ≤ absent

lowest-small : (s : List ℕ) → lowest s ≤ absent
unfolding lowest
lowest-small [] = le_refl absent
lowest-small (v ∷ s) = omega (arith, lowest-small s)

lowest-le : {v : ℕ} {s : List ℕ} → Memᴰ v s → lowest s ≤ v
unfolding lowest
lowest-le (Memᴰ.head e) = omega arith
lowest-le (Memᴰ.tail m) = omega (arith, lowest-le m)

lowest-in : (s : List ℕ) → lowest s ≢ absent → Memᴰ (lowest s) s
unfolding lowest
lowest-in [] d = absurd (d refl)
lowest-in (v ∷ s) d =
    by_cases (dec_le v (lowest s))
    (λ (h : v ≤ lowest s). Memᴰ.head (min-eq_left h))
    (λ (h : ¬ (v ≤ lowest s)).
    let e : min v (lowest s) ≡ lowest s = omega arith in
    Memᴰ.cast e (Memᴰ.tail (lowest-in s (λ a. d (e ∙ a)))))

-- where a walk from x that stays at or below t stands: at x, below x, or it has gone above x
data Stands (g : List Edge) (x t b : ℕ) : Type 0 where
  home : b ≡ x → Stands g x t b
  below : b < x → Low g x x b → Stands g x t b
  out : (v : ℕ) → x < v → v ≤ t → Low g x x v → Stands g x t b

stands : {g : List Edge} {x t b : ℕ} → Conn g t x b → Stands g x t b
stands (stay h) = home refl
stands {g} {x} {t} (go {b = b} {c = c} w l h) = on (stands w)
  where
    arrive : Low g x x c → Stands g x t c
    arrive u =
        by_cases (dec_lt x c)
        (λ (a : x < c). out c a h u)
        (λ (n : ¬ (x < c)). by_cases (ℕ_discrete c x) home (λ (d : c ≢ x). below (omega arith) u))

    on : Stands g x t b → Stands g x t c
    on (home e) = arrive (once (rw e at l))
    on (below a u) = arrive (more u a l)
    on (out v a k u) = out v a k u

-- a walk from x that ends above x goes by a higher neighbour of x in the filled graph
conn-higher : {g : List Edge} {x z : ℕ} → x < z → Conn g z x z → (v : ℕ) × Memᴰ v (higher x (filled g x)) × (v ≤ z)
conn-higher {g} {x} {z} h w = found (stands w)
  where
    found : Stands g x z z → (v : ℕ) × Memᴰ v (higher x (filled g x)) × (v ≤ z)
    found (home e) = absurd (omega arith)
    found (below a u) = absurd (omega arith)
    found (out v a k u) =
        (v, linked-higher x (filled g x) (low-filled g x u (le_refl x) (le_of_lt a) (omega arith)) a, k)

-- the parent is the least above
pub parent-least : (g : List Edge) (x : ℕ) → LeastAbove g x (parent g x)
unfolding parent
parent-least g x =
    record {
      above = λ d. (near d).1;
      joined = λ d. within-conn (filled_within g x) (conn-step (near d).0 (le_of_lt (near d).1) (le_refl y));
      least = λ z h w. below z (conn-higher h w);
      small = lowest-small s;
    }
  where
    s : List ℕ
    s = higher x (filled g x)

    y : ℕ
    y = lowest s

    near : y ≢ absent → Linked (filled g x) x y × (x < y)
    near d = higher-linked x (filled g x) (lowest-in s d)

    below : (z : ℕ) → (v : ℕ) × Memᴰ v s × (v ≤ z) → y ≤ z
    below z (v, m, h) = le_trans (lowest-le m) h

-- a graph that joins more has lower parents
pub least-falls : {g h : List Edge} {x y z : ℕ} → Within g h → LeastAbove g x y → LeastAbove h x z → z ≤ y
least-falls {y = y} w p q =
    by_cases (ℕ_discrete y absent)
    (λ (e : y ≡ absent). rw e q.small)
    (λ (d : y ≢ absent). q.least y (p.above d) (within-conn w (p.joined d)))

-- graphs that join alike have the same parents
pub least-same : {g h : List Edge} {x y z : ℕ} → Within g h → Within h g → LeastAbove g x y → LeastAbove h x z → y ≡ z
least-same w v p q = le_antisymm (least-falls v q p) (least-falls w p q)

-- where nothing above x is joined to it, the parent is absent
pub parent-absent : (g : List Edge) (x : ℕ) → ((z : ℕ) → x < z → Conn g z x z → ⊥) → parent g x ≡ absent
parent-absent g x none =
    by_cases (ℕ_discrete (parent g x) absent) (λ e. e) (λ d. absurd (none (parent g x) ((parent-least g x).above d) ((parent-least g x).joined d)))
