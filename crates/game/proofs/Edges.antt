-- How many ties a flat list has, and lists one behind the other.
-- Assumes nothing.
use mathlib.Core.Path.{◌≡◌, refl, sym, ap, subst, ◌∙◌}
use mathlib.Core.Logic.{⊎_elim}
use mathlib.Core.List.Memᴰ
use mathlib.Core.List.{List, [], ◌∷◌, ◌++◌, Memᴰ}
use Prim.Native.Nat.{ℕ, zero, suc, ◌/◌, ◌%◌}
use native.Mathlib.Omega.{arith}
use lib.ListN.{length, drop}
use Rattle.game.specs.Edge.{Edge, ◌─◌, Tie, tie_of, without_rows, ties, edges}
use Rattle.game.specs.Graph.{Linked, forth, back}

-- ties have as many edges
pub rowless-length : (ts : List Tie) → length (without_rows ts) ≡ length ts
rowless-length [] = refl
rowless-length (t ∷ ts) = omega (arith, rowless-length ts)

-- a flat list holds a third as many ties as numbers
ties-length : (xs : List ℕ) → length (ties xs) ≡ length xs / 3
unfolding ties
ties-length [] = refl
ties-length (x ∷ []) = refl
ties-length (x ∷ y ∷ []) = refl
ties-length (x ∷ y ∷ z ∷ xs) = omega (arith, ties-length xs)

pub edges-ties : (xs : List ℕ) → length (edges xs) ≡ length (ties xs)
unfolding edges
edges-ties xs = rowless-length (ties xs)

pub edges-length : (xs : List ℕ) → length (edges xs) ≡ length xs / 3
edges-length xs = edges-ties xs ∙ ties-length xs

-- a list of whole ties, read before another
pub ties-append : (xs ys : List ℕ) → length xs % 3 ≡ 0 → ties (xs ++ ys) ≡ ties xs ++ ties ys
unfolding ties
ties-append [] ys h = refl
ties-append (a ∷ []) ys h = absurd (omega arith)
ties-append (a ∷ b ∷ []) ys h = absurd (omega arith)
ties-append (a ∷ b ∷ rows ∷ xs) ys h = ap (λ (ts : List Tie). tie_of (a ─ b) rows ∷ ts) (ties-append xs ys (omega arith))

-- the edges of lists laid together
pub rowless-append : (ts us : List Tie) → without_rows (ts ++ us) ≡ without_rows ts ++ without_rows us
rowless-append [] us = refl
rowless-append (t ∷ ts) us = ap (λ (es : List Edge). t.edge ∷ es) (rowless-append ts us)

pub edges-append : (xs ys : List ℕ) → length xs % 3 ≡ 0 → edges (xs ++ ys) ≡ edges xs ++ edges ys
unfolding edges
edges-append xs ys h = ap without_rows (ties-append xs ys h) ∙ rowless-append (ties xs) (ties ys)

-- what is left of ties behind the first i of them
pub rowless-drop : (i : ℕ) (ts : List Tie) → without_rows (drop i ts) ≡ drop i (without_rows ts)
rowless-drop zero ts = refl
rowless-drop (suc i) [] = refl
rowless-drop (suc i) (t ∷ ts) = rowless-drop i ts

-- ties that are all among others link no more than those
rowless-in : {t : Tie} {ts : List Tie} → Memᴰ t ts → Memᴰ t.edge (without_rows ts)
rowless-in (Memᴰ.head e) = Memᴰ.head (ap (λ (u : Tie). u.edge) e)
rowless-in (Memᴰ.tail m) = Memᴰ.tail (rowless-in m)

member-among : {ts us : List Tie} → ((t : Tie) → Memᴰ t ts → Memᴰ t us) → {e : Edge} → Memᴰ e (without_rows ts) → Memᴰ e (without_rows us)
member-among {ts = []} f m = absurd (Memᴰ.not-nil m)
member-among {ts = t ∷ ts} {us} f {e} m =
    ⊎_elim (λ q. subst (λ (x : Edge). Memᴰ x (without_rows us)) (sym q) (rowless-in (f t (Memᴰ.head refl))))
    (λ k. member-among (λ u i. f u (Memᴰ.tail i)) k) (Memᴰ.cases_cons m)

pub linked-among : {ts us : List Tie} → ((t : Tie) → Memᴰ t ts → Memᴰ t us) → (a b : ℕ) → Linked (without_rows ts) a b → Linked (without_rows us) a b
linked-among f a b (forth m) = forth (member-among f m)
linked-among f a b (back m) = back (member-among f m)
