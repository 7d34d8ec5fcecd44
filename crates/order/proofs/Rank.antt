-- Ranks in an order without a bad entry: each vertex stands at one place, its rank, and at each place stands one vertex.
-- Assumes nothing.
use mathlib.Core.Path.{◌≡◌, refl, sym, ap, ◌∙◌}
use mathlib.Core.Logic.{by_cases, ⊎_elim}
use mathlib.Core.Bool.{true, false, true≢false, false≢true}
use mathlib.Core.List.{List, [], ◌∷◌}
use Prim.Native.Nat.{ℕ, zero, suc, ◌<◌}
use native.Mathlib.Nat.{le_refl, le_of_suc-le-suc, not-suc-le-zero}
use native.Mathlib.Decide.{ℕ_discrete}
use native.Mathlib.Omega.{arith}
use lib.Dec.{eqb}
use lib.ListN.{length, get_or}
use borrow.Author.Tests.{eq-eqb, ne_eqb, eqb-true}
use Rattle.game.specs.Table.{member}
use Rattle.game.proofs.Bools.{or_cases, or_left, or_right}
use Rattle.order.specs.Order.{bad_entry, bad_order, rank_of}
use Rattle.order.proofs.Entries.{good-head, good-tail, good-entry, good-all}

rank-here : (v w : ℕ) (ws : List ℕ) → v ≡ w → rank_of (w ∷ ws) v ≡ 0
unfolding rank_of
rank-here v w ws e = rw (eq-eqb v w e)

rank-later : (v w : ℕ) (ws : List ℕ) → (v ≡ w → ⊥) → rank_of (w ∷ ws) v ≡ suc (rank_of ws v)
unfolding rank_of
rank-later v w ws d = rw (ne_eqb v w d)

member-later : (v w : ℕ) (ws : List ℕ) → member v (w ∷ ws) ≡ true → (v ≡ w → ⊥) → member v ws ≡ true
unfolding member
member-later v w ws m d = ⊎_elim (λ e. absurd (d (eqb-true v w e))) (λ h. h) (or_cases (eqb v w) (member v ws) m)

-- what stands at a place of a list is a member
entry-member : (vs : List ℕ) (r : ℕ) → r < length vs → member (get_or vs r 0) vs ≡ true
unfolding member
entry-member [] r h = absurd (not-suc-le-zero h)
entry-member (v ∷ vs) zero h = or_left (eqb v v) (member v vs) (eq-eqb v v refl)
entry-member (v ∷ vs) (suc r) h = or_right (eqb (get_or vs r 0) v) (member (get_or vs r 0) vs) (entry-member vs r (le_of_suc-le-suc h))

-- a member stands at its rank
member-rank : (v : ℕ) (vs : List ℕ) → member v vs ≡ true → (rank_of vs v < length vs) × (get_or vs (rank_of vs v) 0 ≡ v)
unfolding member
member-rank v [] m = absurd (false≢true m)
member-rank v (w ∷ ws) m =
    by_cases (ℕ_discrete v w)
    (λ e. rw (rank-here v w ws e) (omega arith, sym e))
    (λ d. let p = member-rank v ws (member-later v w ws m d) in rw (rank-later v w ws d) (omega arith, p.1))

-- where no entry stands twice, the rank of what stands at a place is that place
place-rank : (n : ℕ) (vs : List ℕ) → bad_entry n vs ≡ false → (r : ℕ) → r < length vs → rank_of vs (get_or vs r 0) ≡ r
place-rank n [] e r h = absurd (not-suc-le-zero h)
place-rank n (v ∷ vs) e zero h = rank-here v v vs refl
place-rank n (v ∷ vs) e (suc r) h =
    let l = le_of_suc-le-suc h in
    rank-later (get_or vs r 0) v vs
    (λ q. true≢false (sym (entry-member vs r l) ∙ ap (λ (u : ℕ). member u vs) q ∙ (good-head n v vs e).1))
    ∙ ap suc (place-rank n vs (good-tail n v vs e) r l)

module _ (order : List ℕ) (good : bad_order order ≡ false) where
  -- every vertex stands in the order
  order-member : (v : ℕ) → v < length order → member v order ≡ true
  unfolding bad_order
  order-member v h = good-all (length order) order good (le_refl (length order)) v h

  pub rank_below : (v : ℕ) → v < length order → rank_of order v < length order
  rank_below v h = (member-rank v order (order-member v h)).0

  -- a vertex stands at its rank
  pub order-rank : (v : ℕ) → v < length order → get_or order (rank_of order v) 0 ≡ v
  order-rank v h = (member-rank v order (order-member v h)).1

  -- the vertex at a place has that place as its rank
  pub rank-order : (r : ℕ) → r < length order → rank_of order (get_or order r 0) ≡ r
  unfolding bad_order
  rank-order r h = place-rank (length order) order good r h

  pub order_below : (r : ℕ) → r < length order → get_or order r 0 < length order
  unfolding bad_order
  order_below r h = good-entry (length order) order good r h

  -- at different places stand different vertices
  pub order-injective : (r s : ℕ) → r < length order → s < length order → get_or order r 0 ≡ get_or order s 0 → r ≡ s
  order-injective r s hr hs e = sym (rank-order r hr) ∙ ap (rank_of order) e ∙ rank-order s hs

  -- different vertices have different ranks
  pub rank-injective : (v w : ℕ) → v < length order → w < length order → rank_of order v ≡ rank_of order w → v ≡ w
  rank-injective v w hv hw e = sym (order-rank v hv) ∙ ap (λ (r : ℕ). get_or order r 0) e ∙ order-rank w hw
