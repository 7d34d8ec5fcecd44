-- From exchanges to a list put in: the laws that the loops follow.
-- Assumes nothing.
use mathlib.Core.Path.{◌≡◌, refl, sym, ap, subst, subst₂, ◌∙◌}
use mathlib.Core.Logic.{◌≢◌, inr, ⊎_elim}
use mathlib.Core.List.{List, [], ◌∷◌, ◌++◌, append_assoc, append-nil}
use Prim.Native.Nat.{ℕ, ◌+◌, ◌≤◌, ◌<◌, min, max}
use native.Mathlib.Omega.{arith}
use lib.ListN.{length, get_or, set, drop, length-set, length-drop, drop_of_length-le}
use lib.Seq.{drop-drop}
use Rattle.std.proofs.lemmas.Bool.{cases_lt}
use Rattle.game.specs.Edge.{Edge, ◌─◌, Tie, without_rows, ties, edges}
use Rattle.game.proofs.Edges.{edges-ties, rowless-drop}
use Rattle.game.specs.Game.{absent, forest}
use Rattle.game.specs.Tree.{links}
use Rattle.game.proofs.Conn.{within-refl, within-trans, within_both}
use Rattle.game.proofs.Forest.{forest-same, forest-unique}
use Rattle.game.proofs.Sound.{Sound, sound-true, true-sound, sound-parent, sound-set, get_d_default}
use Rattle.game.proofs.Within.{within-linked}
use Rattle.game.proofs.Order.{same-linked}
use Rattle.game.specs.Graph.{Proper, flip, nil}
use Rattle.game.proofs.Proper.{proper-head, proper-tail}
use Rattle.refusal.specs.Refusal.{first_fault}
use Rattle.refusal.proofs.Fault.{list-proper}
use Rattle.insert.specs.Putting.{Alike, pending, Table, Exchanged, Lowers, PutEdge, PutUpTo}
use Rattle.insert.proofs.Lowered.{lowers-set}
use Rattle.insert.proofs.Exchanges.{exchange-root, exchange-on, exchange-swap, spent-alike}

pub alike_refl : (g : List Edge) → Alike g g
alike_refl g = record { there = within-refl g; back = within-refl g }

pub alike-trans : {g h k : List Edge} → Alike g h → Alike h k → Alike g k
alike-trans a b = record { there = within-trans a.there b.there; back = within-trans b.back a.back }

alike-more : {g h : List Edge} (k : List Edge) → Alike g h → Alike (g ++ k) (h ++ k)
alike-more k a = record { there = within_both a.there (within-refl k); back = within_both a.back (within-refl k) }

-- the code reads its table by a default of 0
module _ {p : List ℕ} {low high : ℕ} (t : Table p) (up : low < high) (inside : high < length p) where
  below : low < length p
  below = omega arith

  read : get_or p low 0 ≡ get_or p low absent
  read = get_d_default p low 0 absent below

  real : high ≢ absent
  real = omega (arith, t.few)

  stored : Sound (set p low high)
  stored = sound-set (sound-true p t.sound) low high (inr (up, inside))

  -- the lower vertex gets a lower parent than it had, by what the code reads
  pub exchanged-lower : {m k : ℕ} → k ≡ min m low → high < get_or p low 0 → Lowers p m (set p low high) k
  exchanged-lower {m} e over = rw e (lowers-set p m low high below (omega (arith, read)))

  pub exchanged-root : get_or p low 0 ≡ absent → Exchanged p low high (set p low high) high high
  exchanged-root none = record {
    same = length-set p low high;
    sound = true-sound stored;
    higher = up;
    order = omega arith;
    inside = inside;
    alike = exchange-root p low high below up real (sym read ∙ none);
  }

  module _ (some : get_or p low 0 ≢ absent) where
    above : (low < get_or p low 0) × (get_or p low 0 < length p)
    above = rw read (sound-parent (sound-true p t.sound) low below (λ e. some (read ∙ e)))

    pub exchanged-on : get_or p low 0 ≤ high → Exchanged p low high p (get_or p low 0) high
    exchanged-on under = record {
      same = refl;
      sound = t.sound;
      higher = above.0;
      order = under;
      inside = inside;
      alike = exchange-on p low high below up real (get_or p low 0) (sym read) some above.0 under;
    }

    pub exchanged-swap : high < get_or p low 0 → Exchanged p low high (set p low high) high (get_or p low 0)
    exchanged-swap over = record {
      same = length-set p low high;
      sound = true-sound stored;
      higher = up;
      order = omega arith;
      inside = above.1;
      alike = exchange-swap p low high below up real (get_or p low 0) (sym read) some above.0 over;
    }

-- where the loop that puts one edge in stands: so many exchanges were made, and the edge starts at least as high
pub record Trading (p : List ℕ) (e : Edge) (p' : List ℕ) (low high steps : ℕ) : Type 0 where
  pub table : Table p'
  pub same : length p' ≡ length p
  pub order : low ≤ high
  pub inside : high < length p
  pub quick : steps ≤ low
  pub alike : Alike (pending p' (low ─ high)) (pending p e)

pub trade-start : {p : List ℕ} {low high : ℕ} → Table p → low < high → high < length p → Trading p (low ─ high) p low high 0
trade-start {p} {low} {high} t up inside =
    record { table = t; same = refl; order = omega arith; inside = inside; quick = omega arith; alike = alike_refl (pending p (low ─ high)) }

pub trade-step : {p : List ℕ} {e : Edge} {q : List ℕ} {low high steps : ℕ} {q' : List ℕ} {low' high' : ℕ} → Trading p e q low high steps → Exchanged q low high q' low' high' → Trading p e q' low' high' (steps + 1)
trade-step t x = record {
  table = record { few = omega (arith, t.table.few, x.same); sound = x.sound };
  same = x.same ∙ t.same;
  order = x.order;
  inside = omega (arith, x.inside, t.same);
  quick = omega (arith, t.quick, x.higher);
  alike = alike-trans x.alike t.alike;
}

pub trade-end : {p : List ℕ} {e : Edge} {q : List ℕ} {low high steps : ℕ} → Trading p e q low high steps → high ≤ low → PutEdge p e q steps
trade-end {p} {e} {q} {low} {high} t done = record {
  same = t.same;
  sound = t.table.sound;
  alike = alike-trans (spent (spent-alike q high)) t.alike;
  quick = omega (arith, t.quick, t.order, t.inside);
}
  where
    is : high ≡ low
    is = omega (arith, t.order)

    spent : Alike (pending q (high ─ high)) (links q) → Alike (links q) (pending q (low ─ high))
    spent a = subst (λ (x : ℕ). Alike (links q) (pending q (x ─ high))) is (record { there = a.back; back = a.there })

-- an edge may be written either way round
pub put-turned : {p : List ℕ} {a b : ℕ} {q : List ℕ} {steps : ℕ} → PutEdge p (b ─ a) q steps → PutEdge p (a ─ b) q steps
unfolding pending
put-turned {p} {a} {b} x = record { same = x.same; sound = x.sound; quick = x.quick; alike = alike-trans x.alike turned }
  where
    turned : Alike (links p ++ ((b ─ a) ∷ [])) (links p ++ ((a ─ b) ∷ []))
    turned = record {
      there = within_both (within-refl (links p)) (within-linked (same-linked (flip nil)));
      back = within_both (within-refl (links p)) (within-linked (same-linked (flip nil)));
    }

-- so it may be put in by its lower and its upper end
pub put-ordered : {p : List ℕ} {a b low high : ℕ} {q : List ℕ} {steps : ℕ} → low ≡ min a b → high ≡ max a b → PutEdge p (low ─ high) q steps → PutEdge p (a ─ b) q steps
put-ordered {p} {a} {b} {low} {high} {q} {steps} e f x = ⊎_elim
    (λ (h : a < b). subst₂ (λ (u v : ℕ). PutEdge p (u ─ v) q steps) (omega (arith, e, h)) (omega (arith, f, h)) x)
    (λ (h : b ≤ a). put-turned (subst₂ (λ (u v : ℕ). PutEdge p (u ─ v) q steps) (omega (arith, e, h)) (omega (arith, f, h)) x))
    (cases_lt a b)

-- the first of the ties that are left of a list from number i on: its edge, and those behind it
module _ (xs : List ℕ) (i : ℕ) {left rest : List Tie} {t : Tie} (at : left ≡ drop i (ties xs)) (first : left ≡ t ∷ rest) where
  tie-first : drop i (ties xs) ≡ t ∷ rest
  tie-first = sym at ∙ first

  pub ties-on : rest ≡ drop (i + 1) (ties xs)
  ties-on = sym (ap (drop 1) tie-first) ∙ drop-drop 1 i (ties xs)

  pub edge-first : drop i (edges xs) ≡ t.edge ∷ drop (i + 1) (edges xs)
  unfolding edges
  edge-first = sym (rowless-drop i (ties xs)) ∙ ap without_rows tie-first ∙ ap (λ (es : List Edge). t.edge ∷ es) (ap without_rows ties-on ∙ rowless-drop (i + 1) (ties xs))

  pub tie-inside : i < length (edges xs)
  tie-inside = omega (arith, simp length-drop at (ap length edge-first))

-- and where none is left, all edges are in
pub edges-end : (xs : List ℕ) (i : ℕ) {left : List Tie} → left ≡ drop i (ties xs) → left ≡ [] → length (edges xs) ≤ i
edges-end xs i at none = omega (arith, edges-ties xs, simp length-drop at (ap length (sym at ∙ none)))

-- the list, with the loop at edge i
pub put-none : {p xs : List ℕ} → Table p → first_fault (length p) (ties xs) ≡ 0 → PutUpTo p xs p 0
put-none {p} {xs} t f = record { same = refl; sound = t.sound; proper = list-proper (length p) xs f; inside = omega arith; alike = alike_refl (links p ++ edges xs) }

module _ {p xs q : List ℕ} {i a b : ℕ} (u : PutUpTo p xs q i) (h : i < length (edges xs)) (here : drop i (edges xs) ≡ (a ─ b) ∷ drop (i + 1) (edges xs)) where
  -- the edge that stands there is proper, and so are those behind it
  left : Proper (length p) ((a ─ b) ∷ drop (i + 1) (edges xs))
  left = rw here at u.proper

  pub put-ends : (a < length q) × (b < length q) × (a ≡ b → ⊥)
  put-ends = let (ha, hb, d) = proper-head left in (omega (arith, ha, u.same), omega (arith, hb, u.same), d)

  pub put_next : {q' : List ℕ} {steps : ℕ} → PutEdge q (a ─ b) q' steps → PutUpTo p xs q' (i + 1)
  unfolding pending
  put_next {q'} x = record {
    same = x.same ∙ u.same;
    sound = x.sound;
    proper = proper-tail left;
    inside = omega arith;
    alike = alike-trans (alike-more (drop (i + 1) (edges xs)) x.alike) (rw (append_assoc) (rw here at u.alike));
  }

-- alike with the old links and the whole list, the rest included, has the forest of them
module _ {p xs q : List ℕ} {i : ℕ} (u : PutUpTo p xs q i) where
  pub put_rest : (n : ℕ) → forest n (links q ++ drop i (edges xs)) ≡ forest n (links p ++ edges xs)
  put_rest n = forest-same n u.alike.there u.alike.back

  pub put_all : length p ≤ absent → length (edges xs) ≤ i → q ≡ forest (length p) (links p ++ edges xs)
  put_all small done = forest-unique small (sound-true q u.sound) u.same whole.there whole.back
    where
      whole : Alike (links q) (links p ++ edges xs)
      whole = subst (λ (g : List Edge). Alike g (links p ++ edges xs)) (ap (λ (g : List Edge). links q ++ g) (drop_of_length-le (edges xs) done) ∙ append-nil (links q)) u.alike
