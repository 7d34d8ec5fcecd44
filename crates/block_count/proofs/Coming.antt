-- Edges as they come to a vertex that waits, or does not.
-- Assumes nothing.
use mathlib.Core.Path.{◌≡◌, refl}
use mathlib.Core.Bool.{true, false}
use mathlib.Core.List.{List, [], ◌∷◌}
use Prim.Native.Nat.{ℕ, ◌+◌}
use native.Mathlib.Omega.{arith}
use Rattle.game.specs.Edge.{Edge, lower, touches}
use Rattle.game.proofs.Bools.{test-cases}
use Rattle.block_count.specs.WaitingSteps.{next_pending, next_at, waiting, waits}

-- nothing is waited for
pub next-none : (block : List ℕ) (x low : ℕ) → next_at block x low 0 ≡ 0
unfolding next_at next_pending
next-none block x low = omega arith

pub waits-none : (block : List ℕ) (x : ℕ) (es : List Edge) → waits block x 0 es ≡ 0
unfolding waits waiting
waits-none block x [] = refl
waits-none block x (e ∷ es) = test-cases (touches x e) (λ t. rw (t, next-none block x (lower e)) (omega (arith, waits-none block x es))) (λ t. rw t (waits-none block x es))

-- an edge comes that is none of x's, or is
pub waits-away : (block : List ℕ) (x p : ℕ) (e : Edge) (es : List Edge) → touches x e ≡ false → waits block x p (e ∷ es) ≡ waits block x p es
unfolding waits
waits-away block x p e es t = rw t

pub waits-here : (block : List ℕ) (x p : ℕ) (e : Edge) (es : List Edge) → touches x e ≡ true
    → waits block x p (e ∷ es) ≡ waiting p + waits block x (next_at block x (lower e) p) es
unfolding waits
waits-here block x p e es t = rw t
