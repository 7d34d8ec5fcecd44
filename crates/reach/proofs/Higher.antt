-- The reach of x is the number of higher neighbours that the elimination game gives x: of the vertices above x, those with an edge into
-- the subtree of x are the set S at the moment when x is eliminated.
-- Assumes nothing.
use mathlib.Core.Path.{◌≡◌, refl, ap, ◌∙◌}
use mathlib.Core.Logic.{◌≢◌, ⊎_elim, by_cases}
use mathlib.Core.Bool.{Bool, true, false, not, ◌&&◌, ◌||◌, cond}
use mathlib.Core.List.{List, [], ◌∷◌, Memᴰ}
use Prim.Native.Nat.{ℕ, zero, suc, ◌+◌, ◌≤◌, ◌<◌}
use native.Mathlib.Nat.{le_refl, le_of_lt}
use native.Mathlib.Decide.{ℕ_discrete}
use native.Mathlib.Omega.{arith}
use lib.Dec.{eqb, ltb}
use lib.ListN.{length}
use borrow.Author.Tests.{eqb-true, eq-eqb, ne_eqb}
use Rattle.game.specs.Table.{member, one_if, count, some_entry}
use Rattle.game.specs.Edge.{Edge, ◌─◌}
use Rattle.game.specs.Game.{absent, include, higher, clique, filled, forest}
use Rattle.game.specs.Tree.{ancestors, under}
use Rattle.game.specs.Net.{enters, reach}
use Rattle.game.proofs.Bools.{or_cases, or_left, or_right, and_both, both-and, bool_iff}
use Rattle.game.proofs.Tables.{member-in, in-member}
use Rattle.game.proofs.Conn.{Conn, stay, go, conn-to, conn-up, conn-sym, conn-step, conn-trans, linked-sym, linked-cases, within-conn}
use Rattle.game.specs.Graph.{Linked, forth, back, Proper}
use Rattle.game.proofs.Sound.{Sound}
use Rattle.game.proofs.Filled.{higher-linked, linked-higher, clique-in, Low, once, more, low-filled}
use Rattle.game.proofs.Climbs.{climbs-conn, conn-climbs}
use Rattle.game.proofs.Forest.{forest-length, forest-sound, forest-within, within-forest}
use Rattle.game.proofs.Ancestors.{under-climbs, climbs-under, forest-ancestor}
use Rattle.game.proofs.Lists.{Rising, rising-over}
use Rattle.game.proofs.Paths.{ancestors-rising}
use Rattle.reach_slots.proofs.Counts.{entry-some, some-entry-in, count-ext, count-more}

-- ---- walks below x and edges of the filled graph

low_up : {g : List Edge} {x a b : ℕ} → Low g x a b → Low g (suc x) a b
low_up (once l) = once l
low_up (more w h l) = more (low_up w) (omega arith) l

low-trans : {g : List Edge} {x a c b : ℕ} → Low g x a c → c < x → Low g x c b → Low g x a b
low-trans w h (once l) = more w h l
low-trans w h (more v k l) = more (low-trans w h v) k l

-- an edge of the filled graph is a walk whose inner vertices are eliminated
filled-low : (g : List Edge) (x : ℕ) {a b : ℕ} → Linked (filled g x) a b → x ≤ a → x ≤ b → Low g x a b
unfolding filled
filled-low g zero l ha hb = once l
filled-low g (suc x) {a} {b} l ha hb =
    ⊎_elim
    (λ (new : Linked (clique (higher x (filled g x))) a b).
    let m = clique-in (higher x (filled g x)) new in
    let one = higher-linked x (filled g x) m.0 in
    let other = higher-linked x (filled g x) m.1 in
    low-trans (low_up (filled-low g x (linked-sym one.0) (omega arith) (le_refl x))) (omega arith)
    (low_up (filled-low g x other.0 (le_refl x) (omega arith))))
    (λ (old : Linked (filled g x) a b). low_up (filled-low g x old (omega arith) (omega arith)))
    (linked-cases (clique (higher x (filled g x))) l)

low-conn : {g : List Edge} {x a b : ℕ} → Low g x a b → a ≤ x → b ≤ x → Conn g x a b
low-conn (once l) ha hb = conn-step l ha hb
low-conn (more w h l) ha hb = go (low-conn w ha (le_of_lt h)) l hb

-- it ends with an edge from a vertex that the graph joins to x at the height of x
low-last : {g : List Edge} {x y : ℕ} → Low g x x y → (u : ℕ) × Conn g x x u × Linked g u y
low-last {x = x} (once l) = (x, stay (le_refl x), l)
low-last {x = x} (more {c = c} w h l) = (c, low-conn w (le_refl x) (le_of_lt h), l)

-- a walk at the height of x that ends below x
walk-low : {g : List Edge} {x b : ℕ} → Conn g x x b → b ≢ x → Low g x x b
walk-low (stay h) d = absurd (d refl)
walk-low {g} {x} (go {b = c} w l h) d =
    by_cases (ℕ_discrete c x) (λ (e : c ≡ x). once (rw e at l)) (λ (n : c ≢ x). more (walk-low w n) (omega (arith, conn-to w)) l)

-- such a walk and an edge to a higher vertex
walk-filled : {g : List Edge} {x u y : ℕ} → Conn g x x u → Linked g u y → x < y → Linked (filled g x) x y
walk-filled {g} {x} {u} w l h =
    low-filled g x
    (by_cases (ℕ_discrete u x) (λ (e : u ≡ x). once (rw e at l)) (λ (n : u ≢ x). more (walk-low w n) (omega (arith, conn-to w)) l))
    (le_refl x) (le_of_lt h) (omega arith)

-- ---- the higher neighbours, each once

data Distinct : List ℕ → Type 0 where
  none : Distinct []
  next : {v : ℕ} {s : List ℕ} → member v s ≡ false → Distinct s → Distinct (v ∷ s)

include-distinct : (t : Bool) (v : ℕ) {s : List ℕ} → Distinct s → Distinct (include t v s)
unfolding include
include-distinct t v {s} d = put t (member v s) refl
  where
    put : (t u : Bool) → member v s ≡ u → Distinct (cond (t && not u) (v ∷ s) s)
    put true true e = d
    put true false e = next e d
    put false u e = d

higher-distinct : (x : ℕ) (g : List Edge) → Distinct (higher x g)
unfolding higher
higher-distinct x [] = none
higher-distinct x ((a ─ b) ∷ g) = include-distinct (eqb a x && ltb x b) b (include-distinct (eqb b x && ltb x a) a (higher-distinct x g))

count_none : (xs : List ℕ) → count (λ y. false) xs ≡ 0
unfolding count one_if
count_none [] = refl
count_none (x ∷ xs) = omega (arith, count_none xs)

-- the entries of one list that are in another, if that has each once and no other entries
count-members : {z : ℕ} {xs s : List ℕ} → Rising z xs → Distinct s → ((v : ℕ) → Memᴰ v s → Memᴰ v xs) → count (λ y. member y s) xs ≡ length s
unfolding member
count-members {xs = xs} r none h = count_none xs
count-members r (next {v = v} {s = s} e d) h =
    count-more (λ y. member y s) (λ y. eqb y v || member y s) r (h v (Memᴰ.head refl)) e (or_left (eqb v v) (member v s) (eq-eqb v v refl))
    (λ x m n. rw (ne_eqb x v n) refl)
    ∙ ap (λ (k : ℕ). k + 1) (count-members r d (λ w m. h w (Memᴰ.tail m)))
    ∙ omega arith

-- ---- edges into a subtree

-- an edge between y and a vertex under x
pub linked-enters : (p : List ℕ) (x : ℕ) {es : List Edge} {u y : ℕ} → Linked es u y → under p x u ≡ true → some_entry (enters p x y) es ≡ true
unfolding enters
linked-enters p x {u = u} {y = y} (forth m) h =
    entry-some (enters p x y) m (or_right (eqb u y && under p x y) (eqb y y && under p x u) (both-and (eqb y y) (under p x u) (eq-eqb y y refl) h))
linked-enters p x {u = u} {y = y} (back m) h =
    entry-some (enters p x y) m (or_left (eqb y y && under p x u) (eqb u y && under p x y) (both-and (eqb y y) (under p x u) (eq-eqb y y refl) h))

enters-linked : (p : List ℕ) (x : ℕ) (es : List Edge) {y : ℕ} → some_entry (enters p x y) es ≡ true → (u : ℕ) × Linked es u y × (under p x u ≡ true)
unfolding enters
enters-linked p x es {y} e = found (some-entry-in (enters p x y) es e)
  where
    found : (f : Edge) × Memᴰ f es × (enters p x y f ≡ true) → (u : ℕ) × Linked es u y × (under p x u ≡ true)
    found ((a ─ b), m, t) =
        ⊎_elim
        (λ h. let k = and_both (eqb a y) (under p x b) h in (b, back (rw (eqb-true a y k.0) at m), k.1))
        (λ h. let k = and_both (eqb b y) (under p x a) h in (a, forth (rw (eqb-true b y k.0) at m), k.1))
        (or_cases (eqb a y && under p x b) (eqb b y && under p x a) t)

module _ {n : ℕ} {g : List Edge} (small : n ≤ absent) (proper : Proper n g) (x : ℕ) where
  p : List ℕ
  p = forest n g

  s : List ℕ
  s = higher x (filled g x)

  sound : Sound p
  unfolding p
  sound = forest-sound proper

  known : length p ≤ absent
  unfolding p
  known = rw (forest-length n g) small

  -- a higher neighbour of x has an edge from a vertex that the graph joins to x
  from : {y : ℕ} → Memᴰ y s → (x < y) × ((u : ℕ) × Conn g x x u × Linked g u y)
  unfolding s
  from m = let (l, h) = higher-linked x (filled g x) m in (h, low-last (filled-low g x l (le_refl x) (le_of_lt h)))

  entered : {y : ℕ} → Memᴰ y s → some_entry (enters p x y) g ≡ true
  unfolding p
  entered m =
      let (h, (u, w, l)) = from m in
      linked-enters p x l (climbs-under sound (conn-climbs sound (within-conn (within-forest small proper) (conn-sym w))))

  in-set : {y : ℕ} → x < y → some_entry (enters p x y) g ≡ true → Memᴰ y s
  unfolding p s
  in-set h e =
      let (u, l, b) = enters-linked p x g e in
      linked-higher x (filled g x) (walk-filled (conn-sym (within-conn (forest-within n g) (climbs-conn sound (under-climbs known b)))) l h) h

  above : (y : ℕ) → Memᴰ y s → Memᴰ y (ancestors p x)
  unfolding p
  above y m =
      let (h, (u, w, l)) = from m in
      forest-ancestor small proper h (conn-trans (conn-up (le_of_lt h) w) (conn-step l (omega (arith, conn-to w)) (le_refl y)))

  -- "Reach of x: how many marks above x have a tie with a mark under x": as many as the game's S has
  pub reach-higher : reach (forest n g) g x ≡ length (higher x (filled g x))
  unfolding reach p s
  reach-higher =
      count-ext (λ y. some_entry (enters p x y) g) (λ y. member y s) (ancestors p x)
      (λ y m. bool_iff (some_entry (enters p x y) g) (member y s)
      (λ e. in-member (in-set (rising-over (ancestors-rising sound known x) m) e))
      (λ e. entered (member-in y s e)))
      ∙ count-members (ancestors-rising sound known x) (higher-distinct x (filled g x)) above
