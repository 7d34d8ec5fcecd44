-- Putting one edge into a sound table by exchanges. For x below q below y the pairs x–q, x–y and the pairs x–q, q–y join the same
-- vertices at the same heights; so the edge x–y may be traded for one that starts higher, until a root takes it in or it is spent.
-- A spent edge is written y–y: it joins nothing.
-- Assumes nothing.
use mathlib.Core.Path.{◌≡◌, refl, sym, subst, subst₂, ◌∙◌}
use mathlib.Core.Logic.{◌≢◌, ⊎_elim, by_cases}
use mathlib.Core.List.Memᴰ
use mathlib.Core.List.{List, [], ◌∷◌, Memᴰ}
use Prim.Native.Nat.{ℕ, ◌≤◌, ◌<◌, max}
use native.Mathlib.Nat.{le_refl, le_of_lt, le-max_left, le-max_right}
use native.Mathlib.Decide.{ℕ_discrete}
use lib.ListN.{length, get_or, set}
use Rattle.game.specs.Edge.{Edge, ◌─◌}
use Rattle.game.specs.Game.{absent}
use Rattle.game.specs.Tree.{links}
use Rattle.game.proofs.Conn.{Conn, stay, Within, conn-step, conn-trans, conn-up, conn-sym, within-left}
use Rattle.game.specs.Graph.{Linked, forth}
use Rattle.game.proofs.Within.{within-edges}
use Rattle.game.proofs.Proper.{edge-left, edge-right}
use Rattle.game.proofs.Links.{link-of, link-inv, link-set-old, link-set-new, link-set-other, link-set-inv}
use Rattle.insert.specs.Putting.{Alike, pending}

-- a link of the table, and the pending edge
linked : (p : List ℕ) (e : Edge) {a b : ℕ} → Memᴰ (a ─ b) (links p) → Linked (pending p e) a b
unfolding pending
linked p e m = forth (Memᴰ.append_left (e ∷ []) m)

waiting : (p : List ℕ) (x y : ℕ) → Linked (pending p (x ─ y)) x y
unfolding pending
waiting p x y = forth (Memᴰ.append_right (links p) (Memᴰ.head refl))

-- each edge is a link or the pending one
from : (p : List ℕ) {x y : ℕ} {h : List Edge} → ((a b : ℕ) → Memᴰ (a ─ b) (links p) → Conn h (max a b) a b) → Conn h (max x y) x y → Within (pending p (x ─ y)) h
unfolding pending
from p {x} {y} {h} f c = within-edges (λ a b m. ⊎_elim (f a b)
    (λ s. let e = Memᴰ.eq_of_singleton s in subst₂ (λ (u v : ℕ). Conn h (max u v) u v) (sym (edge-left e)) (sym (edge-right e)) c)
    (Memᴰ.append_cases (links p) m))

once : {h : List Edge} {a b : ℕ} → Linked h a b → Conn h (max a b) a b
once {a = a} {b = b} l = conn-step l (le-max_left a b) (le-max_right a b)

spent : {h : List Edge} (y : ℕ) → Conn h (max y y) y y
spent y = stay (le-max_left y y)

module _ (p : List ℕ) (x y : ℕ) (inside : x < length p) (low : x < y) (real : y ≢ absent) where
  -- a link of the table with x's parent set to y
  stored : {h : List Edge} → ((a b : ℕ) → Memᴰ (a ─ b) (links p) → Conn h (max a b) a b) → Linked h x y → (a b : ℕ) → Memᴰ (a ─ b) (links (set p x y)) → Conn h (max a b) a b
  stored {h} f l a b m = ⊎_elim (f a b)
      (λ e. subst₂ (λ (u v : ℕ). Conn h (max u v) u v) (sym e.0) (sym e.1) (once l))
      (link-set-inv p x y m)

  new : (e : Edge) → Linked (pending (set p x y) e) x y
  new e = linked (set p x y) e (link-set-new p inside real)

  -- x is a root: it takes the edge in
  pub exchange-root : get_or p x absent ≡ absent → Alike (pending (set p x y) (y ─ y)) (pending p (x ─ y))
  exchange-root none = record {
    there = from (set p x y) (stored (λ a b m. once (linked p (x ─ y) m)) (waiting p x y)) (spent y);
    back = from p (λ a b m. once (linked (set p x y) (y ─ y) (link-set-old p x y none m))) (once (new (y ─ y)));
  }

  module _ (q : ℕ) (is : get_or p x absent ≡ q) (some : q ≢ absent) (up : x < q) where
    old : (e : Edge) → Linked (pending p e) x q
    old e = linked p e (link-of p inside is some)

    -- x's parent stands at or below y: the edge goes on from there
    pub exchange-on : q ≤ y → Alike (pending p (q ─ y)) (pending p (x ─ y))
    exchange-on under = record {
      there = from p (λ a b m. once (linked p (x ─ y) m))
          (conn-up (le-max_right q y) (conn-trans (conn-sym (conn-step (old (x ─ y)) (le_of_lt low) under)) (conn-step (waiting p x y) (le_of_lt low) (le_refl y))));
      back = from p (λ a b m. once (linked p (q ─ y) m))
          (conn-up (le-max_right x y) (conn-trans (conn-step (old (q ─ y)) (le_of_lt low) under) (conn-step (waiting p q y) under (le_refl y))));
    }

    -- x's parent stands above y: y takes its place, and the edge goes on from y to it
    pub exchange-swap : y < q → Alike (pending (set p x y) (y ─ q)) (pending p (x ─ y))
    exchange-swap over = record {
      there = from (set p x y) (stored (λ a b m. once (linked p (x ─ y) m)) (waiting p x y))
          (conn-up (le-max_right y q) (conn-trans (conn-sym (conn-step (waiting p x y) (le_of_lt up) (le_of_lt over))) (conn-step (old (x ─ y)) (le_of_lt up) (le_refl q))));
      back = from p kept (once (new (y ─ q)));
    }
      where
        far : Conn (pending (set p x y) (y ─ q)) q x q
        far = conn-trans (conn-step (new (y ─ q)) (le_of_lt up) (le_of_lt over)) (conn-step (waiting (set p x y) y q) (le_of_lt over) (le_refl q))

        kept : (a b : ℕ) → Memᴰ (a ─ b) (links p) → Conn (pending (set p x y) (y ─ q)) (max a b) a b
        kept a b m = by_cases (ℕ_discrete a x)
            (λ (e : a ≡ x). let b≡q : b ≡ q = sym (link-inv p m).1 ∙ subst (λ (z : ℕ). get_or p z absent ≡ q) (sym e) is in
            subst₂ (λ (u v : ℕ). Conn (pending (set p x y) (y ─ q)) (max u v) u v) (sym e) (sym b≡q) (conn-up (le-max_right x q) far))
            (λ (d : a ≢ x). once (linked (set p x y) (y ─ q) (link-set-other p x y d m)))

-- a spent edge joins nothing
pub spent-alike : (p : List ℕ) (y : ℕ) → Alike (pending p (y ─ y)) (links p)
unfolding pending
spent-alike p y = record {
  there = from p (λ a b m. once (forth m)) (spent y);
  back = within-left (links p) ((y ─ y) ∷ []);
}
