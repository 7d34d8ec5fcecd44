-- The first tie of a flat list, and those behind it.
-- Assumes nothing.
use mathlib.Core.Path.{◌≡◌, refl, ap, ◌∙◌}
use mathlib.Core.List.{List, [], ◌∷◌}
use Prim.Native.Nat.{ℕ, zero, suc, ◌+◌, ◌-◌, ◌*◌, ◌<◌, ◌≤◌}
use native.Mathlib.Omega.{arith}
use lib.ListN.{length, get_or, take, drop, length-drop}
use lib.Seq.{take_all}
use Rattle.game.specs.Edge.{◌─◌, Tie, tie_of, ties, edges}
use Rattle.game.specs.Net.{charges}

pub ties-few : (xs : List ℕ) → length xs < 3 → ties xs ≡ []
unfolding ties
ties-few [] h = refl
ties-few (a ∷ []) h = refl
ties-few (a ∷ b ∷ []) h = refl
ties-few (a ∷ b ∷ r ∷ xs) h = absurd (omega arith)

pub ties-split : (xs t rest : List ℕ) → t ≡ take 3 xs → rest ≡ drop 3 xs → length rest + 3 ≡ length xs → ties xs ≡ tie_of (get_or t 0 0 ─ get_or t 1 0) (get_or t 2 0) ∷ ties rest
unfolding ties
ties-split [] t rest e f h = absurd (omega arith)
ties-split (a ∷ []) t rest e f h = absurd (omega arith)
ties-split (a ∷ b ∷ []) t rest e f h = absurd (omega arith)
ties-split (a ∷ b ∷ r ∷ xs) t rest e f h = rw (e, f) refl

-- there are fewer of those
pub ties-fewer : (xs t rest : List ℕ) → t ≡ take 3 xs → rest ≡ drop 3 xs → length rest + 3 ≡ length xs → length (ties rest) < length (ties xs)
ties-fewer xs t rest e f h = rw (ties-split xs t rest e f h) (omega arith)

-- Ties still to come are charged for the first, and for those behind it.
pub charges-next : {left rest : List Tie} {t : Tie} → left ≡ t ∷ rest → charges left ≡ t.rows + charges rest
unfolding charges
charges-next q = rw q refl

pub charges-none : {left : List Tie} → left ≡ [] → charges left ≡ 0
unfolding charges
charges-none q = rw q refl

-- what is left of a flat list behind its first i ties
pub ties-behind : (xs : List ℕ) (i : ℕ) → i ≤ length (edges xs) → ties (drop (3 * i) xs) ≡ drop i (ties xs)
unfolding edges ties
ties-behind xs zero h = refl
ties-behind [] (suc i) h = absurd (omega arith)
ties-behind (a ∷ []) (suc i) h = absurd (omega arith)
ties-behind (a ∷ b ∷ []) (suc i) h = absurd (omega arith)
ties-behind (a ∷ b ∷ r ∷ xs) (suc i) h =
    let e : 3 * suc i ≡ suc (suc (suc (3 * i))) = omega arith in
    ap (λ (k : ℕ). ties (drop k (a ∷ b ∷ r ∷ xs))) e ∙ ties-behind xs i (omega arith)

-- the part of a flat list behind a place, as the code lends it
pub part-behind : (xs : List ℕ) (k : ℕ) → take (length xs - k) (drop k xs) ≡ drop k xs
part-behind xs k = take_all (length xs - k) (drop k xs) (simp length-drop (omega arith))
