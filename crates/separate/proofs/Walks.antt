-- A walk parts at its highest vertex into two that stay at or below it. So both of its ends climb to that vertex in the forest.
-- Assumes nothing.
use mathlib.Core.Path.{refl}
use mathlib.Core.Logic.{by_cases}
use mathlib.Core.List.{List, ◌∷◌, Memᴰ}
use Prim.Native.Nat.{ℕ, ◌≤◌}
use native.Mathlib.Nat.{le_refl, le_trans}
use native.Mathlib.Decide.{dec_le}
use native.Mathlib.Omega.{arith}
use Rattle.game.specs.Edge.{Edge}
use Rattle.game.specs.Game.{absent, forest}
use Rattle.game.specs.Graph.{Proper}
use Rattle.game.proofs.Conn.{Conn, stay, conn-from, conn-step, conn-trans, conn-sym, conn-up, within-conn}
use Rattle.game.proofs.Climbs.{Climbs, conn-climbs}
use Rattle.game.proofs.Forest.{forest-sound, within-forest}
use Rattle.separate.specs.Separates.{Walk, here, on}

record Highest (es : List Edge) (a b : ℕ) (vs : List ℕ) : Type 0 where
  top : ℕ
  passed : Memᴰ top vs
  up : Conn es top a top
  down : Conn es top top b

highest : {es : List Edge} {a b : ℕ} {vs : List ℕ} → Walk es a b vs → Highest es a b vs
highest (here {a = a}) = record { top = a; passed = Memᴰ.head refl; up = stay (le_refl a); down = stay (le_refl a) }
highest {es} {a} {b} (on {c = c} {vs = vs} l w) = go (highest w)
  where
    go : Highest es c b vs → Highest es a b (a ∷ vs)
    go h =
        by_cases (dec_le a h.top)
        (λ (k : a ≤ h.top).
        record {
          top = h.top;
          passed = Memᴰ.tail h.passed;
          up = conn-trans (conn-step l k (conn-from h.up)) h.up;
          down = h.down;
        })
        (λ (k : ¬ (a ≤ h.top)).
        let lower : h.top ≤ a = omega arith in
        record {
          top = a;
          passed = Memᴰ.head refl;
          up = stay (le_refl a);
          down = conn-trans (conn-step l (le_refl a) (le_trans (conn-from h.up) lower)) (conn-up lower (conn-trans h.up h.down));
        })

-- every walk passes a vertex that both of its ends climb to
pub walk-climbs : {n : ℕ} {es : List Edge} {a b : ℕ} {vs : List ℕ} → n ≤ absent → Proper n es → Walk es a b vs
    → (y : ℕ) × Memᴰ y vs × Climbs (forest n es) y a × Climbs (forest n es) y b
walk-climbs {n} {es} {a} {b} u p w =
    let h = highest w in
    let climbs : (x : ℕ) → Conn es h.top x h.top → Climbs (forest n es) h.top x = λ x k. conn-climbs (forest-sound p) (within-conn (within-forest u p) k) in
    (h.top, h.passed, climbs a h.up, climbs b (conn-sym h.down))
