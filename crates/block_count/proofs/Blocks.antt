-- The edges at a vertex, and their blocks: those of its lower neighbours, and its own, if it has a higher neighbour.
-- Assumes nothing.
use mathlib.Core.Path.{◌≡◌, refl, sym, ap, subst, ◌∙◌}
use mathlib.Core.Logic.{◌⊎◌, inl, inr, ⊎_elim, by_cases}
use mathlib.Core.Bool.{Bool, true, false}
use mathlib.Core.List.Memᴰ
use mathlib.Core.List.{List, [], ◌∷◌, Memᴰ}
use Prim.Native.Nat.{ℕ, ◌≤◌, ◌<◌, min}
use native.Mathlib.Nat.{min-eq_left, min-eq_right, le_of_lt}
use native.Mathlib.Decide.{dec_le}
use native.Mathlib.Omega.{arith}
use lib.Dec.{eqb}
use lib.ListN.{get_or}
use borrow.Author.Tests.{eq-eqb, eqb-true}
use Rattle.game.specs.Edge.{Edge, ◌─◌, lower, touches}
use Rattle.game.specs.Graph.{Linked, forth, back}
use Rattle.game.proofs.Bools.{or_cases, or_left, or_right, test-cases}
use Rattle.block_count.specs.BlockCount.{edge_block, edge_blocks_of, blocks_at}
use Rattle.game.specs.Table.{filtered}

module _ {A : Type 0} (t : A → Bool) where
  pub filtered-take : {x : A} (xs : List A) → t x ≡ true → filtered t (x ∷ xs) ≡ x ∷ filtered t xs
  unfolding filtered
  filtered-take xs e = rw e

  pub filtered-leave : {x : A} (xs : List A) → t x ≡ false → filtered t (x ∷ xs) ≡ filtered t xs
  unfolding filtered
  filtered-leave xs e = rw e

  -- what is filtered is of the list, and passes
  pub filtered-in : (xs : List A) {a : A} → Memᴰ a (filtered t xs) → Memᴰ a xs × (t a ≡ true)
  unfolding filtered
  filtered-in [] m = absurd (Memᴰ.not-nil m)
  filtered-in (x ∷ xs) {a} m =
      test-cases (t x)
      (λ e.
      ⊎_elim (λ (q : a ≡ x). (Memᴰ.head q, ap t q ∙ e)) (λ r. let i = filtered-in xs r in (Memᴰ.tail i.0, i.1))
      (Memᴰ.cases_cons (rw (filtered-take xs e) at m)))
      (λ e. let i = filtered-in xs (rw (filtered-leave xs e) at m) in (Memᴰ.tail i.0, i.1))

  pub in-filtered : {a : A} {xs : List A} → Memᴰ a xs → t a ≡ true → Memᴰ a (filtered t xs)
  in-filtered (Memᴰ.head {xs = xs} q) e = rw (filtered-take xs (sym (ap t q) ∙ e)) (Memᴰ.head q)
  in-filtered (Memᴰ.tail {x = x} {xs = xs} m) e =
      test-cases (t x)
      (λ f. rw (filtered-take xs f) (Memᴰ.tail (in-filtered m e)))
      (λ f. rw (filtered-leave xs f) (in-filtered m e))

module _ (block : List ℕ) where
  blocks-in : (es : List Edge) {j : ℕ} → Memᴰ j (edge_blocks_of block es) → (e : Edge) × Memᴰ e es × (edge_block block e ≡ j)
  unfolding edge_blocks_of
  blocks-in [] m = absurd (Memᴰ.not-nil m)
  blocks-in (e ∷ es) m =
      ⊎_elim (λ q. (e, Memᴰ.head refl, sym q)) (λ r. let (f, i, q) = blocks-in es r in (f, Memᴰ.tail i, q)) (Memᴰ.cases_cons m)

  in_blocks : {e : Edge} {es : List Edge} → Memᴰ e es → Memᴰ (edge_block block e) (edge_blocks_of block es)
  unfolding edge_blocks_of
  in_blocks (Memᴰ.head q) = Memᴰ.head (ap (edge_block block) q)
  in_blocks (Memᴰ.tail m) = Memᴰ.tail (in_blocks m)

-- an edge at y leads up from y, or down to a lower vertex
pub edge-down : (es : List Edge) (y : ℕ) (e : Edge) → Memᴰ e es → touches y e ≡ true → (lower e ≡ y) ⊎ ((lower e < y) × Linked es (lower e) y)
unfolding lower touches
edge-down es y (a ─ b) m t = ⊎_elim (λ h. first (eqb-true a y h)) (λ h. second (eqb-true b y h)) (or_cases (eqb a y) (eqb b y) t)
  where
    first : a ≡ y → (min a b ≡ y) ⊎ ((min a b < y) × Linked es (min a b) y)
    first e =
        by_cases (dec_le a b)
        (λ (h : a ≤ b). inl (min-eq_left h ∙ e))
        (λ (h : a ≤ b → ⊥). let l : b ≤ a = omega arith in inr (rw (min-eq_right l) (omega arith, rw (← e) (back m))))

    second : b ≡ y → (min a b ≡ y) ⊎ ((min a b < y) × Linked es (min a b) y)
    second e =
        by_cases (dec_le b a)
        (λ (h : b ≤ a). inl (min-eq_right h ∙ e))
        (λ (h : b ≤ a → ⊥). let l : a ≤ b = omega arith in inr (rw (min-eq_left l) (omega arith, rw (← e) (forth m))))

-- an edge is at both of its ends
touches-lower : (e : Edge) → touches (lower e) e ≡ true
unfolding lower touches
touches-lower (a ─ b) =
    by_cases (dec_le a b)
    (λ (h : a ≤ b). or_left (eqb a (min a b)) (eqb b (min a b)) (eq-eqb a (min a b) (sym (min-eq_left h))))
    (λ (h : a ≤ b → ⊥). or_right (eqb a (min a b)) (eqb b (min a b)) (eq-eqb b (min a b) (sym (min-eq_right (omega arith)))))

module _ (block : List ℕ) (es : List Edge) (y : ℕ) where
  -- a block at y is y's own, if an edge leads up from y, or that of a lower neighbour
  pub block_at : {j : ℕ} → Memᴰ j (blocks_at block es y)
      → ((e : Edge) × Memᴰ e es × (lower e ≡ y) × (j ≡ get_or block y 0)) ⊎ ((u : ℕ) × (u < y) × Linked es u y × (j ≡ get_or block u 0))
  unfolding blocks_at edge_block
  block_at m =
      let (e, i, q) = blocks-in block (filtered (touches y) es) m in
      let (k, t) = filtered-in (touches y) es i in
      ⊎_elim
      (λ l. inl (e, k, l, sym q ∙ ap (λ (x : ℕ). get_or block x 0) l))
      (λ d. inr (lower e, d.0, d.1, sym q))
      (edge-down es y e k t)

  at_block : {e : Edge} → Memᴰ e es → touches y e ≡ true → Memᴰ (edge_block block e) (blocks_at block es y)
  unfolding blocks_at
  at_block m t = in_blocks block (in-filtered (touches y) m t)

  -- where an edge leads up from y, y's own block is one of them
  pub own_at : {e : Edge} → Memᴰ e es → lower e ≡ y → Memᴰ (get_or block y 0) (blocks_at block es y)
  unfolding edge_block
  own_at {e} m l =
      subst (λ (v : ℕ). Memᴰ (get_or block v 0) (blocks_at block es y)) l (at_block m (subst (λ (v : ℕ). touches v e ≡ true) l (touches-lower e)))

  -- and so is the block of each lower neighbour
  pub lower-at : {u : ℕ} → u < y → Linked es u y → Memᴰ (get_or block u 0) (blocks_at block es y)
  unfolding edge_block lower touches
  lower-at {u} l (forth m) =
      subst (λ (v : ℕ). Memᴰ (get_or block v 0) (blocks_at block es y)) (min-eq_left (le_of_lt l)) (at_block m (or_right (eqb u y) (eqb y y) (eq-eqb y y refl)))
  lower-at {u} l (back m) =
      subst (λ (v : ℕ). Memᴰ (get_or block v 0) (blocks_at block es y)) (min-eq_right (le_of_lt l)) (at_block m (or_left (eqb y y) (eqb u y) (eq-eqb y y refl)))
