-- Walks in the links of a sound table. What is joined to y at height y is what climbs to y by parents: the subtree of y. So the
-- parent that the table names is the least above, in the table's own links.
-- Assumes nothing.
use mathlib.Core.Path.{◌≡◌, refl, sym, subst, ◌∙◌}
use mathlib.Core.Logic.{⊎_elim}
use mathlib.Core.List.{List, Memᴰ}
use Prim.Native.Nat.{ℕ, ◌≤◌, ◌<◌}
use native.Mathlib.Nat.{le_refl, le_of_eq, le_of_lt, le_trans}
use native.Mathlib.Omega.{arith}
use lib.ListN.{length, get_or}
use Rattle.game.specs.Edge.{◌─◌}
use Rattle.game.specs.Game.{absent}
use Rattle.game.specs.Tree.{links}
use Rattle.game.proofs.Conn.{Conn, stay, go, conn-step, conn-trans, conn-sym}
use Rattle.game.specs.Graph.{Linked, forth, back}
use Rattle.game.proofs.Sound.{Sound, sound-parent}
use Rattle.game.proofs.Links.{link-of, link-inv, link_up}
use Rattle.game.proofs.Parent.{LeastAbove}

-- from x by parents, none or more, to y
pub data Climbs (p : List ℕ) (y : ℕ) : ℕ → Type 0 where
  top : Climbs p y y
  up : {x c : ℕ} → Memᴰ (x ─ c) (links p) → Climbs p y c → Climbs p y x

-- two links from one vertex go to one parent
pub link-same : (p : List ℕ) {x b c : ℕ} → Memᴰ (x ─ b) (links p) → Memᴰ (x ─ c) (links p) → b ≡ c
link-same p l m = sym (link-inv p l).1 ∙ (link-inv p m).1

module _ {p : List ℕ} (s : Sound p) where
  pub climbs-le : {y x : ℕ} → Climbs p y x → x ≤ y
  climbs-le {y = y} top = le_refl y
  climbs-le (up m k) = le_trans (le_of_lt (link_up s m).0) (climbs-le k)

  -- who climbs to y is joined to y at height y
  pub climbs-conn : {y x : ℕ} → Climbs p y x → Conn (links p) y x y
  climbs-conn {y = y} top = stay (le_refl y)
  climbs-conn (up m k) = conn-trans (conn-step (forth m) (climbs-le (up m k)) (climbs-le k)) (climbs-conn k)

  climbs-step : {b c y : ℕ} → Climbs p y b → Linked (links p) b c → c ≤ y → Climbs p y c
  climbs-step k (back m) h = up m k
  climbs-step {c = c} {y = y} top (forth m) h = absurd (omega (arith, (link_up s m).0))
  climbs-step {y = y} (up n k) (forth m) h = subst (Climbs p y) (link-same p n m) k

  climbs-walk : {y b : ℕ} → Conn (links p) y y b → Climbs p y b
  climbs-walk (stay h) = top
  climbs-walk (go w l h) = climbs-step (climbs-walk w) l h

  -- who is joined to y at height y climbs to y
  pub conn-climbs : {x y : ℕ} → Conn (links p) y x y → Climbs p y x
  conn-climbs w = climbs-walk (conn-sym w)

  -- a table's parents are the least above in its own links
  pub table-least : length p ≤ absent → (x : ℕ) → x < length p → LeastAbove (links p) x (get_or p x absent)
  table-least n x h =
      record {
        above = λ d. (sound-parent s x h d).0;
        joined = λ d. conn-step (forth (link-of p h refl d)) (le_of_lt (sound-parent s x h d).0) (le_refl (get_or p x absent));
        least = λ z a w. next a (conn-climbs w);
        small = ⊎_elim le_of_eq (λ b. le_trans (le_of_lt b.1) n) (s.each x h);
      }
    where
      next : {z : ℕ} → x < z → Climbs p z x → get_or p x absent ≤ z
      next a top = absurd (omega arith)
      next a (up m k) = rw (link-inv p m).1 (climbs-le k)
