-- The elimination game, seen through walks. The filled graph joins what the graph joined, at the same heights; and a walk of the
-- graph whose inner vertices are all eliminated is one edge of the filled graph.
-- Assumes nothing.
use mathlib.Core.Path.{◌≡◌, refl, sym, ap, ap₂, ◌∙◌}
use mathlib.Core.Logic.{◌≢◌, ◌⊎◌, inl, inr, ⊎_elim, by_cases}
use mathlib.Core.Bool.{Bool, true, false, not, ◌&&◌, cond}
use mathlib.Core.List.Memᴰ
use mathlib.Core.List.{List, [], ◌∷◌, map, Memᴰ}
use Prim.Native.Nat.{ℕ, zero, suc, ◌≤◌, ◌<◌, max}
use native.Mathlib.Nat.{not-suc-le-zero}
use native.Mathlib.Decide.{ℕ_discrete}
use native.Mathlib.Omega.{arith}
use lib.Dec.{eqb, ltb}
use borrow.Author.Tests.{eqb-true, eq-eqb, ltb-true, lt-ltb}
use Rattle.game.specs.Table.{member}
use Rattle.game.specs.Edge.{Edge, ◌─◌}
use Rattle.game.specs.Game.{include, higher, clique, filled}
use Rattle.game.proofs.Bools.{and_both, both-and}
use Rattle.game.proofs.Tables.{member-in}
use Rattle.game.proofs.Conn.{Conn, conn-step, conn-trans, Within, linked-sym, linked-left, linked-right, linked-cases, within-refl, within-trans, within-append}
use Rattle.game.specs.Graph.{Linked, forth, back}
use Rattle.game.proofs.Proper.{Ends, same, turned, edge-left, edge-right, linked-nil, linked-cons, linked-tail}

-- ---- the higher neighbours of a vertex

include-cases : (t : Bool) (v : ℕ) (s : List ℕ) {w : ℕ} → Memᴰ w (include t v s) → ((t ≡ true) × (w ≡ v)) ⊎ Memᴰ w s
unfolding include
include-cases t v s {w} m = go t (member v s) m
  where
    go : (t u : Bool) → Memᴰ w (cond (t && not u) (v ∷ s) s) → ((t ≡ true) × (w ≡ v)) ⊎ Memᴰ w s
    go true true m = inr m
    go true false m = ⊎_elim (λ e. inl (refl, e)) (λ r. inr r) (Memᴰ.cases_cons m)
    go false u m = inr m

include-new : (t : Bool) (v : ℕ) (s : List ℕ) → t ≡ true → Memᴰ v (include t v s)
unfolding include
include-new t v s e = rw e (go (member v s) refl)
  where
    go : (u : Bool) → member v s ≡ u → Memᴰ v (cond (not u) (v ∷ s) s)
    go true q = member-in v s q
    go false q = Memᴰ.head refl

include-old : (t : Bool) (v : ℕ) (s : List ℕ) {w : ℕ} → Memᴰ w s → Memᴰ w (include t v s)
unfolding include
include-old t v s {w} m = go (t && not (member v s))
  where
    go : (u : Bool) → Memᴰ w (cond u (v ∷ s) s)
    go true = Memᴰ.tail m
    go false = m

-- a higher neighbour is linked and higher
pub higher-linked : (x : ℕ) (g : List Edge) {v : ℕ} → Memᴰ v (higher x g) → Linked g x v × (x < v)
unfolding higher
higher-linked x [] m = absurd (Memᴰ.not-nil m)
higher-linked x ((a ─ b) ∷ g) {v} m =
    ⊎_elim first (λ m'. ⊎_elim second (λ m''. later (higher-linked x g m'')) (include-cases (eqb b x && ltb x a) a (higher x g) m'))
    (include-cases (eqb a x && ltb x b) b (include (eqb b x && ltb x a) a (higher x g)) m)
  where
    first : ((eqb a x && ltb x b) ≡ true) × (v ≡ b) → Linked ((a ─ b) ∷ g) x v × (x < v)
    first h =
        let t = and_both (eqb a x) (ltb x b) h.0 in
        let e = eqb-true a x t.0 in
        (forth (Memᴰ.head (ap₂ ◌─◌ (sym e) h.1)), rw h.1 (ltb-true x b t.1))

    second : ((eqb b x && ltb x a) ≡ true) × (v ≡ a) → Linked ((a ─ b) ∷ g) x v × (x < v)
    second h =
        let t = and_both (eqb b x) (ltb x a) h.0 in
        let e = eqb-true b x t.0 in
        (back (Memᴰ.head (ap₂ ◌─◌ h.1 (sym e))), rw h.1 (ltb-true x a t.1))

    later : Linked g x v × (x < v) → Linked ((a ─ b) ∷ g) x v × (x < v)
    later h = (linked-tail (a ─ b) h.0, h.1)

-- what is linked and higher is a higher neighbour
pub linked-higher : (x : ℕ) (g : List Edge) {v : ℕ} → Linked g x v → x < v → Memᴰ v (higher x g)
unfolding higher
linked-higher x [] l h = absurd (linked-nil l)
linked-higher x ((a ─ b) ∷ g) {v} l h = ⊎_elim ends (λ l'. first (second (linked-higher x g l' h))) (linked-cons l)
  where
    second : {w : ℕ} → Memᴰ w (higher x g) → Memᴰ w (include (eqb b x && ltb x a) a (higher x g))
    second m = include-old (eqb b x && ltb x a) a (higher x g) m

    first : {w : ℕ} → Memᴰ w (include (eqb b x && ltb x a) a (higher x g)) → Memᴰ w (higher x ((a ─ b) ∷ g))
    first m = include-old (eqb a x && ltb x b) b (include (eqb b x && ltb x a) a (higher x g)) m

    ends : Ends a b x v → Memᴰ v (higher x ((a ─ b) ∷ g))
    ends (same e f) =
        Memᴰ.cast f (include-new (eqb a x && ltb x b) b (include (eqb b x && ltb x a) a (higher x g))
        (both-and (eqb a x) (ltb x b) (eq-eqb a x (sym e)) (lt-ltb x b (rw f at h))))
    ends (turned e f) =
        first (Memᴰ.cast f (include-new (eqb b x && ltb x a) a (higher x g)
        (both-and (eqb b x) (ltb x a) (eq-eqb b x (sym e)) (lt-ltb x a (rw f at h)))))

-- ---- a clique

star : ℕ → List ℕ → List Edge
star u s = map (λ (w : ℕ). u ─ w) s

star-ends : (u : ℕ) (s : List ℕ) {v w : ℕ} → Memᴰ (v ─ w) (star u s) → (v ≡ u) × Memᴰ w s
unfolding star
star-ends u s m =
    let t = Memᴰ.of_map (λ (w : ℕ). u ─ w) s m in
    (sym (edge-left t.2), Memᴰ.cast (sym (edge-right t.2)) t.1)

star-edge : {u v w : ℕ} {s : List ℕ} → v ≡ u → Memᴰ w s → Memᴰ (v ─ w) (star u s)
unfolding star
star-edge {u} {w = w} e m = Memᴰ.cast (ap (λ (z : ℕ). z ─ w) e) (Memᴰ.map (λ (w : ℕ). u ─ w) m)

-- a clique links its own members
pub clique-in : (s : List ℕ) {v w : ℕ} → Linked (clique s) v w → Memᴰ v s × Memᴰ w s
unfolding clique star
clique-in [] l = absurd (linked-nil l)
clique-in (u ∷ s) {v} {w} l =
    ⊎_elim first (λ l'. let t = clique-in s l' in (Memᴰ.tail t.0, Memᴰ.tail t.1)) (linked-cases (star u s) l)
  where
    first : Linked (star u s) v w → Memᴰ v (u ∷ s) × Memᴰ w (u ∷ s)
    first (forth m) = let t = star-ends u s m in (Memᴰ.head t.0, Memᴰ.tail t.1)
    first (back m) = let t = star-ends u s m in (Memᴰ.tail t.1, Memᴰ.head t.0)

-- two different members of a clique are linked
pub in-clique : {v w : ℕ} {s : List ℕ} → Memᴰ v s → Memᴰ w s → v ≢ w → Linked (clique s) v w
unfolding clique star
in-clique (Memᴰ.head e) (Memᴰ.head f) d = absurd (d (e ∙ sym f))
in-clique (Memᴰ.head {xs = s} e) (Memᴰ.tail n) d = linked-left (clique s) (forth (star-edge e n))
in-clique (Memᴰ.tail {xs = s} m) (Memᴰ.head f) d = linked-left (clique s) (back (star-edge f m))
in-clique (Memᴰ.tail {x = u} {xs = s} m) (Memᴰ.tail n) d = linked-right (star u s) (in-clique m n d)

-- ---- the filled graph

-- the graph is part of the filled graph
pub linked-filled : (g : List Edge) (x : ℕ) {a b : ℕ} → Linked g a b → Linked (filled g x) a b
unfolding filled
linked-filled g zero l = l
linked-filled g (suc x) l = linked-right (clique (higher x (filled g x))) (linked-filled g x l)

-- two members of the clique at x are joined through x, which is below both
clique-within : (x : ℕ) (g : List Edge) → Within (clique (higher x g)) g
clique-within x g = record { each = λ v w l. through v w (clique-in (higher x g) l) }
  where
    through : (v w : ℕ) → Memᴰ v (higher x g) × Memᴰ w (higher x g) → Conn g (max v w) v w
    through v w m =
        let (lv, hv) = higher-linked x g m.0 in
        let (lw, hw) = higher-linked x g m.1 in
        conn-trans (conn-step (linked-sym lv) (omega arith) (omega arith)) (conn-step lw (omega arith) (omega arith))

-- the filled graph joins nothing that the graph does not
pub filled_within : (g : List Edge) (x : ℕ) → Within (filled g x) g
unfolding filled
filled_within g zero = within-refl g
filled_within g (suc x) =
    within-trans (within-append (clique-within x (filled g x)) (within-refl (filled g x))) (filled_within g x)

-- a walk in the graph g from a whose inner vertices are below x
pub data Low (g : List Edge) (x a : ℕ) : ℕ → Type 0 where
  once : {b : ℕ} → Linked g a b → Low g x a b
  more : {c b : ℕ} → Low g x a c → c < x → Linked g c b → Low g x a b

-- a walk below x + 1 stays below x or is cut at x into two that do
low-split : {g : List Edge} {x a b : ℕ} → Low g (suc x) a b → Low g x a b ⊎ (Low g x a x × Low g x x b)
low-split (once l) = inl (once l)
low-split {g} {x} {a} {b} (more {c = c} w h l) = by_cases (ℕ_discrete c x) (at (low-split w)) (before (low-split w))
  where
    at : Low g x a c ⊎ (Low g x a x × Low g x x c) → c ≡ x → Low g x a b ⊎ (Low g x a x × Low g x x b)
    at (inl u) e = inr (rw e at u, once (rw e at l))
    at (inr (u, v)) e = inr (u, once (rw e at l))

    before : Low g x a c ⊎ (Low g x a x × Low g x x c) → c ≢ x → Low g x a b ⊎ (Low g x a x × Low g x x b)
    before (inl u) d = inl (more u (omega arith) l)
    before (inr (u, v)) d = inr (u, more v (omega arith) l)

-- a walk whose inner vertices are eliminated is an edge of the filled graph
pub low-filled : (g : List Edge) (x : ℕ) {a b : ℕ} → Low g x a b → x ≤ a → x ≤ b → a ≢ b → Linked (filled g x) a b
unfolding filled
low-filled g zero (once l) ha hb d = l
low-filled g zero (more w h l) ha hb d = absurd (not-suc-le-zero h)
low-filled g (suc x) {a} {b} w ha hb d =
    ⊎_elim
    (λ (u : Low g x a b). linked-right (clique (higher x h)) (low-filled g x u (omega arith) (omega arith) d))
    (λ (u : Low g x a x × Low g x x b).
    let la : Linked h a x = low-filled g x u.0 (omega arith) (omega arith) (omega arith) in
    let lb : Linked h x b = low-filled g x u.1 (omega arith) (omega arith) (omega arith) in
    linked-left h (in-clique (linked-higher x h (linked-sym la) ha) (linked-higher x h lb hb) d))
    (low-split w)
  where
    h : List Edge
    h = filled g x
