-- The edges of one vertex, as they come in a list: each of them leads up, and is of the vertex's own block, or leads down, and is of the
-- block of its lower end. So the blocks of all, in list order, are those of the edges that lead down, with its own between them.
-- Assumes nothing.
use mathlib.Core.Path.{◌≡◌, refl, sym, ap, ◌∙◌}
use mathlib.Core.Logic.{◌≢◌, ◌⊎◌, inl, inr, ⊎_elim, by_cases}
use mathlib.Core.Bool.{true, false}
use mathlib.Core.List.Memᴰ
use mathlib.Core.List.{List, [], ◌∷◌, ◌++◌, map, Memᴰ}
use Prim.Native.Nat.{ℕ, zero, suc, ◌+◌, ◌<◌, min, max}
use native.Mathlib.Decide.{ℕ_discrete, dec_lt}
use native.Mathlib.Omega.{arith}
use lib.Dec.{eqb}
use lib.ListN.{length, get_or}
use borrow.Author.Tests.{eq-eqb, ne_eqb}
use Rattle.game.specs.Table.{count, one_if, filtered}
use Rattle.game.specs.Edge.{Edge, ◌─◌, lower, upper, touches}
use Rattle.game.specs.Graph.{Proper}
use Rattle.game.specs.Net.{owner}
use Rattle.game.proofs.Bools.{or_left, or_right}
use Rattle.game.proofs.Proper.{proper-head, proper-tail}
use Rattle.bucket.specs.Ends.{end_of}
use Rattle.bucket.specs.Filed.{lower_ends}
use Rattle.reach_slots.specs.Given.{lower_count}
use Rattle.sorting.proofs.Values.{values-nil, values-here, values_other}
use Rattle.block_count.specs.BlockCount.{edge_block, edge_blocks_of, blocks_at}
use Rattle.block_count.proofs.Blocks.{filtered-take, filtered-leave}
use Rattle.block_count.specs.CountingSteps.{own_block}

module _ (block : List ℕ) (y : ℕ) where
  -- of a list of edges: how many lead up from y, the blocks of all edges of y, and of those that lead down
  pub data Seen : List Edge → ℕ → List ℕ → List ℕ → Type 0 where
    nil : Seen [] 0 [] []
    away : {e : Edge} {es : List Edge} {w : ℕ} {bs ds : List ℕ} → touches y e ≡ false → Seen es w bs ds → Seen (e ∷ es) w bs ds
    up : {e : Edge} {es : List Edge} {w : ℕ} {bs ds : List ℕ} → touches y e ≡ true → lower e ≡ y → Seen es w bs ds
        → Seen (e ∷ es) (suc w) (get_or block y 0 ∷ bs) ds
    down : {e : Edge} {es : List Edge} {w : ℕ} {bs ds : List ℕ} → touches y e ≡ true → lower e ≢ y → Seen es w bs ds
        → Seen (e ∷ es) w (get_or block (lower e) 0 ∷ bs) (get_or block (lower e) 0 ∷ ds)

  pub seen-length : {es : List Edge} {w : ℕ} {bs ds : List ℕ} → Seen es w bs ds → length bs ≡ w + length ds
  seen-length nil = refl
  seen-length (away t s) = seen-length s
  seen-length (up t l s) = omega (arith, seen-length s)
  seen-length (down t l s) = omega (arith, seen-length s)

  -- where none leads up, the blocks are those of the edges that lead down
  pub seen-down : {es : List Edge} {w : ℕ} {bs ds : List ℕ} → Seen es w bs ds → w ≡ 0 → bs ≡ ds
  seen-down nil e = refl
  seen-down (away t s) e = seen-down s e
  seen-down (up t l s) e = absurd (omega arith)
  seen-down (down {e = d} t l s) e = ap (λ (bs : List ℕ). get_or block (lower d) 0 ∷ bs) (seen-down s e)

  -- and in any case they are the same, but for y's own
  pub seen-met : {es : List Edge} {w : ℕ} {bs ds : List ℕ} → Seen es w bs ds → (j : ℕ) → Memᴰ j bs → Memᴰ j (own_block w (get_or block y 0) ++ ds)
  unfolding own_block
  seen-met nil j m = m
  seen-met (away t s) j m = seen-met s j m
  seen-met (up {w = w} {ds = ds} t l s) j m = ⊎_elim (λ q. Memᴰ.head q) (λ r. own-more w ds (seen-met s j r)) (Memᴰ.cases_cons m)
    where
      own-more : (w : ℕ) (ds : List ℕ) → Memᴰ j (own_block w (get_or block y 0) ++ ds) → Memᴰ j (get_or block y 0 ∷ ds)
      own-more zero ds m = Memᴰ.tail m
      own-more (suc w) ds m = m
  seen-met (down {e = e} {w = w} {ds = ds} t l s) j m = ⊎_elim (λ q. here w ds q) (λ r. later w ds (seen-met s j r)) (Memᴰ.cases_cons m)
    where
      here : (w : ℕ) (ds : List ℕ) → j ≡ get_or block (lower e) 0 → Memᴰ j (own_block w (get_or block y 0) ++ (get_or block (lower e) 0 ∷ ds))
      here zero ds q = Memᴰ.head q
      here (suc w) ds q = Memᴰ.tail (Memᴰ.head q)

      later : (w : ℕ) (ds : List ℕ) → Memᴰ j (own_block w (get_or block y 0) ++ ds) → Memᴰ j (own_block w (get_or block y 0) ++ (get_or block (lower e) 0 ∷ ds))
      later zero ds m = Memᴰ.tail m
      later (suc w) ds m = ⊎_elim (λ q. Memᴰ.head q) (λ r. Memᴰ.tail (Memᴰ.tail r)) (Memᴰ.cases_cons m)

  pub met-seen : {es : List Edge} {w : ℕ} {bs ds : List ℕ} → Seen es w bs ds → (j : ℕ) → Memᴰ j (own_block w (get_or block y 0) ++ ds) → Memᴰ j bs
  unfolding own_block
  met-seen nil j m = m
  met-seen (away t s) j m = met-seen s j m
  met-seen (up {w = w} {ds = ds} t l s) j m = ⊎_elim (λ q. Memᴰ.head q) (λ r. Memᴰ.tail (met-seen s j (without w ds r))) (Memᴰ.cases_cons m)
    where
      without : (w : ℕ) (ds : List ℕ) → Memᴰ j ds → Memᴰ j (own_block w (get_or block y 0) ++ ds)
      without zero ds m = m
      without (suc w) ds m = Memᴰ.tail m
  met-seen (down {e = e} {w = w} {bs = bs} {ds = ds} t l s) j m = split w ds m (λ r. met-seen s j r)
    where
      split : (w : ℕ) (ds : List ℕ) → Memᴰ j (own_block w (get_or block y 0) ++ (get_or block (lower e) 0 ∷ ds))
          → (Memᴰ j (own_block w (get_or block y 0) ++ ds) → Memᴰ j bs) → Memᴰ j (get_or block (lower e) 0 ∷ bs)
      split zero ds m f = ⊎_elim (λ q. Memᴰ.head q) (λ r. Memᴰ.tail (f r)) (Memᴰ.cases_cons m)
      split (suc w) ds m f =
          ⊎_elim (λ q. Memᴰ.tail (f (Memᴰ.head q)))
          (λ r. ⊎_elim (λ q. Memᴰ.head q) (λ v. Memᴰ.tail (f (Memᴰ.tail v))) (Memᴰ.cases_cons r))
          (Memᴰ.cases_cons m)

  -- what an edge adds to the blocks
  at_here : (e : Edge) (es : List Edge) → touches y e ≡ true → blocks_at block (e ∷ es) y ≡ get_or block (lower e) 0 ∷ blocks_at block es y
  unfolding blocks_at edge_blocks_of edge_block owner
  at_here e es t = ap (edge_blocks_of block) (filtered-take (touches y) es t)

  at_other : (e : Edge) (es : List Edge) → touches y e ≡ false → blocks_at block (e ∷ es) y ≡ blocks_at block es y
  unfolding blocks_at
  at_other e es t = ap (edge_blocks_of block) (filtered-leave (touches y) es t)

  count-up : (e : Edge) (es : List Edge) → lower e ≡ y → lower_count (e ∷ es) y ≡ suc (lower_count es y)
  unfolding lower_count count one_if
  count-up e es l = rw (eq-eqb (lower e) y l) (omega arith)

  count-other : (e : Edge) (es : List Edge) → lower e ≢ y → lower_count (e ∷ es) y ≡ lower_count es y
  unfolding lower_count count one_if
  count-other e es d = rw (ne_eqb (lower e) y d) (omega arith)

  -- the ends of an edge that is none of y's, or is
  touches-end : (a b : ℕ) → (lower (a ─ b) ≡ y) ⊎ (end_of true (a ─ b) ≡ y) → touches y (a ─ b) ≡ true
  unfolding lower upper end_of touches
  touches-end a b h =
      by_cases (ℕ_discrete a y)
      (λ (e : a ≡ y). or_left (eqb a y) (eqb b y) (eq-eqb a y e))
      (λ (d : a ≢ y). or_right (eqb a y) (eqb b y) (eq-eqb b y (other d)))
    where
      other : (a ≡ y → ⊥) → b ≡ y
      other d = ⊎_elim (λ (e : min a b ≡ y). omega arith) (λ (e : max a b ≡ y). omega arith) h

  touches_none : (a b : ℕ) → lower (a ─ b) ≢ y → end_of true (a ─ b) ≢ y → touches y (a ─ b) ≡ false
  unfolding lower upper end_of touches
  touches_none a b l u = rw (ne_eqb a y first, ne_eqb b y second)
    where
      first : a ≡ y → ⊥
      first e = by_cases (dec_lt a b) (λ (h : a < b). l (omega arith)) (λ (h : a < b → ⊥). u (omega arith))

      second : b ≡ y → ⊥
      second e = by_cases (dec_lt a b) (λ (h : a < b). u (omega arith)) (λ (h : a < b → ⊥). l (omega arith))

  ends-apart : (a b : ℕ) → a ≢ b → lower (a ─ b) ≡ y → end_of true (a ─ b) ≢ y
  unfolding lower upper end_of
  ends-apart a b d l u = apart d (l ∙ sym u)
    where
      apart : (a ≡ b → ⊥) → min a b ≡ max a b → ⊥
      apart d e = d (omega arith)

  -- the edges of a graph are seen so
  pub seen : {n : ℕ} (es : List Edge) → Proper n es → Seen es (lower_count es y) (blocks_at block es y) (map (λ (u : ℕ). get_or block u 0) (lower_ends es y))
  unfolding blocks_at edge_blocks_of filtered lower_count count end_of
  seen [] p = rw (values-nil (end_of true) (end_of false) y) nil
  seen ((a ─ b) ∷ es) p =
      by_cases (ℕ_discrete (lower e) y)
      (λ (l : lower e ≡ y).
      rw (count-up e es l, at_here e es (touches-end a b (inl l)), l, values_other (end_of true) (end_of false) e es y (ends-apart a b (proper-head p).2 l))
      (up (touches-end a b (inl l)) l (seen es (proper-tail p))))
      (λ (d : lower e ≢ y).
      by_cases (ℕ_discrete (end_of true e) y)
      (λ (u : end_of true e ≡ y).
      rw (count-other e es d, at_here e es (touches-end a b (inr u)), values-here (end_of true) (end_of false) e es y u)
      (down (touches-end a b (inr u)) d (seen es (proper-tail p))))
      (λ (v : end_of true e ≢ y).
      rw (count-other e es d, at_other e es (touches_none a b d v), values_other (end_of true) (end_of false) e es y v)
      (away (touches_none a b d v) (seen es (proper-tail p)))))
    where
      e : Edge
      e = a ─ b
