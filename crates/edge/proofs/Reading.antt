-- The numbers of a flat list are its ties, read by number.
-- Assumes nothing.
use mathlib.Core.Path.{◌≡◌, refl, ap, ap₂, ◌∙◌}
use mathlib.Core.List.{List, [], ◌∷◌}
use Prim.Native.Nat.{ℕ, zero, suc, ◌+◌, ◌*◌, ◌<◌}
use native.Mathlib.Omega.{arith}
use lib.ListN.{length, get_or}
use Rattle.game.specs.Edge.{◌─◌, Tie, tie_of, without_rows, ties, edges}

abbrev pub no_tie : Tie
no_tie = tie_of (0 ─ 0) 0

pub ties-at : (xs : List ℕ) (i : ℕ) → i < length (edges xs) → tie_of (get_or xs (3 * i) 0 ─ get_or xs (3 * i + 1) 0) (get_or xs (3 * i + 2) 0) ≡ get_or (ties xs) i no_tie
unfolding edges ties
ties-at [] i h = absurd (omega arith)
ties-at (a ∷ []) i h = absurd (omega arith)
ties-at (a ∷ b ∷ []) i h = absurd (omega arith)
ties-at (a ∷ b ∷ r ∷ xs) zero h = refl
ties-at (a ∷ b ∷ r ∷ xs) (suc i) h =
    let e : 3 * suc i ≡ suc (suc (suc (3 * i))) = omega arith in
    let f : 3 * suc i + 1 ≡ suc (suc (suc (3 * i + 1))) = omega arith in
    let g : 3 * suc i + 2 ≡ suc (suc (suc (3 * i + 2))) = omega arith in
    ap₂ tie_of (ap₂ ◌─◌ (ap (λ (k : ℕ). get_or (a ∷ b ∷ r ∷ xs) k 0) e) (ap (λ (k : ℕ). get_or (a ∷ b ∷ r ∷ xs) k 0) f)) (ap (λ (k : ℕ). get_or (a ∷ b ∷ r ∷ xs) k 0) g)
    ∙ ties-at xs i (omega arith)

-- the edge of the tie
edge_of : (xs : List ℕ) (i : ℕ) → (get_or (ties xs) i no_tie).edge ≡ get_or (edges xs) i (0 ─ 0)
unfolding edges
edge_of xs i = go (ties xs) i
  where
    go : (ts : List Tie) (i : ℕ) → (get_or ts i no_tie).edge ≡ get_or (without_rows ts) i (0 ─ 0)
    go [] i = refl
    go (t ∷ ts) zero = refl
    go (t ∷ ts) (suc i) = go ts i

pub edges_at : (xs : List ℕ) (i : ℕ) → i < length (edges xs) → (get_or xs (3 * i) 0 ─ get_or xs (3 * i + 1) 0) ≡ get_or (edges xs) i (0 ─ 0)
edges_at xs i h = ap (λ (t : Tie). t.edge) (ties-at xs i h) ∙ edge_of xs i
