-- From climbs to the forest, edge by edge: every edge that was taken in is a walk in the forest, so that in the end the table is the
-- elimination forest of the list.
-- Assumes nothing.
use mathlib.Core.Path.{◌≡◌, refl, sym, subst, subst₂, ◌∙◌}
use mathlib.Core.Logic.{◌⊎◌, inl, inr, ⊎_elim, by_cases}
use mathlib.Core.Bool.{true, false}
use mathlib.Core.List.Memᴰ
use mathlib.Core.List.{List, [], ◌∷◌}
use Prim.Native.Nat.{ℕ, ◌≤◌, ◌<◌}
use native.Mathlib.Nat.{le_refl, le_of_lt}
use native.Mathlib.Decide.{dec_lt}
use native.Mathlib.Omega.{arith}
use lib.ListN.{length, replicate}
use Rattle.game.specs.Edge.{Edge, ◌─◌, lower, upper, Tie, tie_of, without_rows, ties, edges}
use Rattle.game.specs.Game.{absent, forest}
use Rattle.game.specs.Tree.{links}
use Rattle.game.specs.Graph.{Linked, forth, back, Proper}
use Rattle.game.proofs.Conn.{Conn, conn-step, linked-sym, linked-cases, linked-right}
use Rattle.game.proofs.Proper.{edge-left, edge-right, linked-nil}
use Rattle.refusal.specs.Refusal.{fault}
use Rattle.refusal.proofs.Fault.{faultless}
use Rattle.bucket.specs.Ends.{end_of}
use Rattle.growth.specs.Growth.{Standing, Climbed, Connects, new_parents}
use Rattle.growth.proofs.Climbs.{climb-alone, alone-joined}
use Rattle.growth.proofs.Gather.{kept-conn}
use Rattle.growth.proofs.Raise.{standing-up, raise-start, raise-end}
use Rattle.rising.specs.Rising.{Rises, rise}

-- the edges of E but for those of T are taken in
pub record Taking (n : ℕ) (E : List Edge) (T : List Tie) (p jump : List ℕ) : Type 0 where
  pub last : ℕ
  pub rises : Rises n last T
  pub top : last ≤ n
  pub standing : Standing n E last [] p jump
  pub among : (a b : ℕ) → Linked (without_rows T) a b → Linked E a b
  pub covered : (a b : ℕ) → Linked E a b → a < b → Linked (without_rows T) a b ⊎ Conn (links p) b a b

pub taking-start : {n : ℕ} (xs : List ℕ) → n ≤ absent → Rises n 0 (ties xs) → Taking n (edges xs) (ties xs) (replicate n absent) (replicate n absent)
unfolding edges
taking-start {n} xs small r = record { last = 0; rises = r; top = omega arith; standing = (raise-start n (edges xs) small).standing; among = λ a b l. l; covered = λ a b l low. inl l }

pub taking-end : {n : ℕ} {E : List Edge} {T : List Tie} {p jump : List ℕ} → Taking n E T p jump → T ≡ [] → Proper n E → p ≡ forest n E
taking-end {n} {E} {T} {p} t none proper =
    raise-end proper (le_refl n)
    (record {
      standing = standing-up t.top t.standing;
      covered = λ a b l low h. ⊎_elim (λ k. absurd (linked-nil (subst (λ (ts : List Tie). Linked (without_rows ts) a b) none k))) (λ c. c) (t.covered a b l low);
    })

-- the ends of a tie without a fault
edge-ends : (n a b rows : ℕ) → fault n (tie_of (a ─ b) rows) ≡ 0 → (a < n) × (b < n) × (a ≡ b → ⊥)
edge-ends n a b rows f = let k = faultless n a b rows f in (k.0, k.1, k.2)

-- which two vertices the next edge links
head-linked : {rest : List Edge} {a b c d : ℕ} → Linked ((a ─ b) ∷ rest) c d → (((c ≡ a) × (d ≡ b)) ⊎ ((c ≡ b) × (d ≡ a))) ⊎ Linked rest c d
head-linked {a = a} {b = b} {c = c} {d = d} l = ⊎_elim (λ k. inl (own k)) (λ k. inr k) (linked-cases ((a ─ b) ∷ []) l)
  where
    own : Linked ((a ─ b) ∷ []) c d → ((c ≡ a) × (d ≡ b)) ⊎ ((c ≡ b) × (d ≡ a))
    own (forth m) = let e = Memᴰ.eq_of_singleton m in inl (edge-left e, edge-right e)
    own (back m) = let e = Memᴰ.eq_of_singleton m in inr (edge-right e, edge-left e)

-- its ends, by height
module _ {n a b : ℕ} (proper : (a < n) × (b < n) × (a ≡ b → ⊥)) where
  ends-order : (end_of false (a ─ b) < end_of true (a ─ b)) × (end_of true (a ─ b) < n)
  unfolding end_of lower upper
  ends-order = (omega (arith, proper.2), omega (arith, proper.0, proper.1))

  ends-linked : {g : List Edge} → Linked g a b → Linked g (end_of false (a ─ b)) (end_of true (a ─ b))
  unfolding end_of lower upper
  ends-linked {g} l = by_cases (dec_lt a b)
      (λ (h : a < b). let (e, f) = low h in subst₂ (Linked g) e f l)
      (λ (h : a < b → ⊥). let (e, f) = high h in subst₂ (Linked g) e f (linked-sym l))
    where
      low : a < b → (a ≡ end_of false (a ─ b)) × (b ≡ end_of true (a ─ b))
      low h = (omega arith, omega arith)

      high : (a < b → ⊥) → (b ≡ end_of false (a ─ b)) × (a ≡ end_of true (a ─ b))
      high h = (omega arith, omega arith)

  ends-are : {c d : ℕ} → c < d → ((c ≡ a) × (d ≡ b)) ⊎ ((c ≡ b) × (d ≡ a)) → (end_of false (a ─ b) ≡ c) × (end_of true (a ─ b) ≡ d)
  unfolding end_of lower upper
  ends-are h (inl (e, f)) = (omega arith, omega arith)
  ends-are h (inr (e, f)) = (omega arith, omega arith)

-- taken in by what a climb promises
pub taking-edge : {n a b rows : ℕ} {E : List Edge} {rest T : List Tie} {u y : ℕ} {p jump p' jump' : List ℕ} → Taking n E T (new_parents p jump) jump → T ≡ tie_of (a ─ b) rows ∷ rest → u ≡ end_of false (a ─ b) → y ≡ end_of true (a ─ b) → length p ≡ n
    → Connects u y p jump p' jump' → Taking n E rest (new_parents p' jump') jump'
taking-edge {n} {a} {b} {rows} {E} {rest} {T} {u} {y} {p} {jump} {p'} {jump'} t head low high long c = on (subst (Rises n t.last) head t.rises)
  where
    -- an edge that is left is this one or one behind it
    left : (c d : ℕ) → Linked (without_rows T) c d → (((c ≡ a) × (d ≡ b)) ⊎ ((c ≡ b) × (d ≡ a))) ⊎ Linked (without_rows rest) c d
    left c d l = head-linked (subst (λ (ts : List Tie). Linked (without_rows ts) c d) head l)

    behind : (c d : ℕ) → Linked (without_rows rest) c d → Linked (without_rows T) c d
    behind c d l = subst (λ (ts : List Tie). Linked (without_rows ts) c d) (sym head) (linked-right ((a ─ b) ∷ []) l)

    own : Linked E a b
    own = t.among a b (subst (λ (ts : List Tie). Linked (without_rows ts) a b) (sym head) (forth (Memᴰ.head refl)))

    on : Rises n t.last (tie_of (a ─ b) rows ∷ rest) → Taking n E rest (new_parents p' jump') jump'
    on (rise f l r) = record {
      last = end_of true (a ─ b);
      rises = r;
      top = le_of_lt (ends-order (edge-ends n a b rows f)).1;
      standing = subst (λ (z : ℕ). Standing n E z [] (new_parents p' jump') jump') high climbed.standing;
      among = λ c d k. t.among c d (behind c d k);
      covered = λ c d k h. ⊎_elim
          (λ k. ⊎_elim (λ k. inr (joined (ends-are (edge-ends n a b rows f) h k))) (λ k. inl k) (left c d k))
          (λ k. inr (kept-conn (t.standing.long ∙ sym climbed.standing.long) climbed.kept k))
          (t.covered c d k h);
    }
      where
        order : (u < y) × (y < n)
        order = subst₂ (λ (v z : ℕ). (v < z) × (z < n)) (sym low) (sym high) (ends-order (edge-ends n a b rows f))

        walk : Conn E y u y
        walk = conn-step (subst₂ (Linked E) (sym low) (sym high) (ends-linked (edge-ends n a b rows f) own)) (le_of_lt order.0) (le_refl y)

        climbed : Climbed n E y (u ∷ []) [] (new_parents p jump) (new_parents p' jump') jump'
        climbed = climb-alone long c (standing-up (omega (arith, l, high)) t.standing) walk

        joined : {c d : ℕ} → (end_of false (a ─ b) ≡ c) × (end_of true (a ─ b) ≡ d) → Conn (links (new_parents p' jump')) d c d
        joined (e, f) = subst₂ (λ (v z : ℕ). Conn (links (new_parents p' jump')) z v z) (low ∙ e) (high ∙ f) (alone-joined climbed)

-- the next tie has no fault
pub taking-faultless : {n a b rows : ℕ} {E : List Edge} {rest T : List Tie} {p jump : List ℕ} → Taking n E T p jump → T ≡ tie_of (a ─ b) rows ∷ rest → fault n (tie_of (a ─ b) rows) ≡ 0
taking-faultless {n} {a} {b} {rows} {rest = rest} t head = on (subst (Rises n t.last) head t.rises)
  where
    on : Rises n t.last (tie_of (a ─ b) rows ∷ rest) → fault n (tie_of (a ─ b) rows) ≡ 0
    on (rise f l r) = f

-- its upper end is in the table
pub taking-upper : (n a b rows : ℕ) → fault n (tie_of (a ─ b) rows) ≡ 0 → end_of true (a ─ b) < n
taking-upper n a b rows f = (ends-order (edge-ends n a b rows f)).1
