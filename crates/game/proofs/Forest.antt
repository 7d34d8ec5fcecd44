-- The elimination forest of a graph is the one sound table whose links join what the graph joins, at the same heights. So it
-- depends on nothing else of the graph, and part of a graph may be put for its own forest's links: the law of joined trees.
-- Assumes nothing.
use mathlib.Core.Path.{◌≡◌, refl, sym, subst, ◌∙◌}
use mathlib.Core.Bool.{true}
use mathlib.Core.Logic.{◌≢◌, inl, inr, by_cases}
use mathlib.Core.List.{List, [], ◌++◌, Memᴰ}
use Prim.Native.Nat.{ℕ, zero, suc, ◌+◌, ◌≤◌, ◌<◌, max}
use native.Mathlib.Nat.{le_refl, le_of_lt, le-max_right, ne_of_lt}
use native.Mathlib.Decide.{ℕ_discrete, dec_lt}
use native.Mathlib.Omega.{arith}
use lib.ListN.{length, get_or, replicate, get_or-eq_default}
use Rattle.game.specs.Edge.{Edge, ◌─◌}
use Rattle.game.specs.Game.{absent, parent, forest}
use Rattle.game.specs.Tree.{links, sound}
use Rattle.game.proofs.Conn.{Conn, stay, go, conn-step, conn-trans, conn-sym, conn-up, Within, within-refl, within_both, within-left, within-conn}
use Rattle.game.specs.Graph.{Linked, forth, Proper}
use Rattle.game.proofs.Tables.{tabulate-length, tabulate-entry, tabulate-unique, tabulate-ext, tabulate-const}
use Rattle.game.proofs.Proper.{linked-nil}
use Rattle.game.proofs.Within.{within-edges, within-up, conn-below}
use Rattle.game.proofs.Sound.{Sound, Allowed, sound-true}
use Rattle.game.proofs.Links.{link-of, link-inv}
use Rattle.game.proofs.Parent.{parent-least, parent-absent, least-same}
use Rattle.game.proofs.Climbs.{table-least}

pub forest-length : (n : ℕ) (g : List Edge) → length (forest n g) ≡ n
unfolding forest
forest-length n g = tabulate-length n (parent g)

-- the entry of x is its parent
pub forest-entry : (n : ℕ) (g : List Edge) {x : ℕ} → x < n → get_or (forest n g) x absent ≡ parent g x
unfolding forest
forest-entry n g {x} h = tabulate-entry n (parent g) x absent h

-- the forest of a proper graph is a sound table
pub forest-sound : {n : ℕ} {g : List Edge} → Proper n g → Sound (forest n g)
forest-sound {n} {g} p = record { each = λ r h. let b : r < n = rw forest-length at h in rw (forest-length, forest-entry n g b) (allowed r) }
  where
    allowed : (x : ℕ) → Allowed n x (parent g x)
    allowed x = by_cases (ℕ_discrete (parent g x) absent) inl
        (λ (d : parent g x ≢ absent). let a = (parent-least g x).above d in inr (a, conn-below p ((parent-least g x).joined d) (ne_of_lt a)))

-- each link of the forest is a walk of the graph
pub forest-within : (n : ℕ) (g : List Edge) → Within (links (forest n g)) g
forest-within n g = within-edges walk
  where
    walk : (a b : ℕ) → Memᴰ (a ─ b) (links (forest n g)) → Conn g (max a b) a b
    walk a b m =
        let l = link-inv (forest n g) m in
        let e : parent g a ≡ b = sym (forest-entry n g (rw forest-length at l.0)) ∙ l.1 in
        conn-up (le-max_right a b) (rw e at ((parent-least g a).joined (λ z. l.2 (sym e ∙ z))))

-- what the graph joins climbs in the forest
conn-forest : {n : ℕ} (g : List Edge) → n ≤ absent → (k : ℕ) {x y : ℕ} → y ≤ x + k → x < y → y < n
    → Conn g y x y → Conn (links (forest n g)) y x y
conn-forest g u zero f h b w = absurd (omega arith)
conn-forest {n} g u (suc k) {x} {y} f h b w =
    let q : ℕ = parent g x in
    let c : q ≤ y = (parent-least g x).least y h w in
    let d : q ≢ absent = omega arith in
    let a : x < q = (parent-least g x).above d in
    let l : Linked (links (forest n g)) x q = forth (link-of (forest n g) (rw forest-length (omega arith)) (forest-entry n g (omega arith)) d) in
    let step : Conn (links (forest n g)) y x q = conn-step l (le_of_lt h) c in
    by_cases (ℕ_discrete q y)
    (λ (e : q ≡ y). subst (Conn (links (forest n g)) y x) e step)
    (λ (e : q ≢ y).
    conn-trans step (conn-forest g u k (omega arith) (omega arith) b (conn-trans (conn-up c (conn-sym ((parent-least g x).joined d))) w)))

-- each edge of a proper graph is a walk of the forest's links
pub within-forest : {n : ℕ} {g : List Edge} → n ≤ absent → Proper n g → Within g (links (forest n g))
within-forest {n} {g} u p =
    within-up p (λ a b h l. conn-forest g u b (omega arith) h (p.each a b l).1 (conn-step l (le_of_lt h) (le_refl b)))

-- a sound table whose links join what the graph joins is the graph's forest
pub forest-unique : {p : List ℕ} {n : ℕ} {g : List Edge} → n ≤ absent → Sound p → length p ≡ n
    → Within (links p) g → Within g (links p) → p ≡ forest n g
unfolding forest
forest-unique {p} {n} {g} u s e w v =
    tabulate-unique n (parent g) p absent e (λ i h. least-same w v (table-least s (omega arith) i (omega arith)) (parent-least g i))

-- graphs that join alike have one forest
pub forest-same : (n : ℕ) {g h : List Edge} → Within g h → Within h g → forest n g ≡ forest n h
unfolding forest
forest-same n {g} {h} w v = tabulate-ext n (parent g) (parent h) (λ i l. least-same w v (parent-least g i) (parent-least h i))

-- a sound table is the forest of its own links
pub forest-links : {p : List ℕ} → Sound p → length p ≤ absent → forest (length p) (links p) ≡ p
forest-links {p} s u = sym (forest-unique u s refl (within-refl (links p)) (within-refl (links p)))

-- the same, by the test of the rule of 7
pub sound-forest : (p : List ℕ) → sound p ≡ true → length p ≤ absent → forest (length p) (links p) ≡ p
sound-forest p s u = forest-links (sound-true p s) u

-- the law of joined trees, one part at a time: a part of the graph may be put for its forest's links
pub join-law-left : {n : ℕ} {g : List Edge} (h : List Edge) → n ≤ absent → Proper n g
    → forest n (g ++ h) ≡ forest n (links (forest n g) ++ h)
join-law-left {n} {g} h u p =
    forest-same n (within_both (within-forest u p) (within-refl h)) (within_both (forest-within n g) (within-refl h))

-- the law of joined trees
pub join-law : {n : ℕ} {g h : List Edge} → n ≤ absent → Proper n g → Proper n h
    → forest n (g ++ h) ≡ forest n (links (forest n g) ++ links (forest n h))
join-law {n} {g} {h} u p q =
    forest-same n (within_both (within-forest u p) (within-forest u q)) (within_both (forest-within n g) (forest-within n h))

-- parents only fall when edges are added, absent being the highest
parent-falls : (g h : List Edge) (x : ℕ) → parent (g ++ h) x ≤ parent g x
parent-falls g h x = by_cases (ℕ_discrete (parent g x) absent)
    (λ (e : parent g x ≡ absent). omega (arith, (parent-least (g ++ h) x).small))
    (λ (d : parent g x ≢ absent).
    (parent-least (g ++ h) x).least (parent g x) ((parent-least g x).above d) (within-conn (within-left g h) ((parent-least g x).joined d)))

forest-falls : (n : ℕ) (g h : List Edge) (x : ℕ) → get_or (forest n (g ++ h)) x absent ≤ get_or (forest n g) x absent
forest-falls n g h x = by_cases (dec_lt x n)
    (λ (l : x < n). omega (arith, forest-entry n (g ++ h) l, forest-entry n g l, parent-falls g h x))
    (λ (o : x < n → ⊥). omega (arith, beyond g (omega arith), beyond (g ++ h) (omega arith)))
  where
    beyond : (k : List Edge) → n ≤ x → get_or (forest n k) x absent ≡ absent
    beyond k o = get_or-eq_default (forest n k) absent (omega (arith, forest-length n k))

-- so do those of a sound table whose links are among the edges
pub links-fall : {p : List ℕ} → Sound p → length p ≤ absent → (h : List Edge) (x : ℕ) → get_or (forest (length p) (links p ++ h)) x absent ≤ get_or p x absent
links-fall {p} s u h x = subst (λ (q : List ℕ). get_or (forest (length p) (links p ++ h)) x absent ≤ get_or q x absent) (forest-links s u) (forest-falls (length p) (links p) h x)

-- no edge, no parent
pub forest-empty : (n : ℕ) → forest n [] ≡ replicate n absent
unfolding forest
forest-empty n = tabulate-const n (parent []) absent (λ i h. parent-absent [] i (λ z a w. alone w (ne_of_lt a)))
  where
    alone : {t a b : ℕ} → Conn [] t a b → a ≢ b → ⊥
    alone (stay h) d = d refl
    alone (go w l h) d = linked-nil l
