-- The inverse is written in the order's order, an entry at a time to any place; it ends whole because every vertex stands in the order.
-- Assumes nothing.
use mathlib.Core.Path.{◌≡◌, sym, ap, ◌∙◌}
use mathlib.Core.Bool.{false}
use mathlib.Core.List.{List}
use Prim.Native.Nat.{ℕ, ◌+◌, ◌≤◌, ◌<◌}
use native.Mathlib.Omega.{arith}
use lib.ListN.{length, get_or, set, length-set}
use lib.Seq.{get_or-set_same, get_or-set_other}
use borrow.Author.Count.{below_more}
use Rattle.game.proofs.Tables.{tabulate-unique}
use Rattle.order.specs.Order.{bad_order, rank_of, inverse_of}
use Rattle.order.proofs.Rank.{rank_below, order-rank, order_below, order-injective}

-- where the inverse stands: the vertices of the ranks below r have theirs
pub record Inverted (order table : List ℕ) (r : ℕ) : Type 0 where
  pub size : length table ≡ length order
  pub rank : (k : ℕ) → k < r → get_or table (get_or order k 0) 0 ≡ k

module _ {order table : List ℕ} {r : ℕ} (good : bad_order order ≡ false) (f : Inverted order table r) where
  pub inverted-room : {v : ℕ} → r < length order → v ≡ get_or order r 0 → v < length table
  inverted-room h e = omega (arith, f.size, order_below order good r h)

  pub inverted-more : {v : ℕ} → r < length order → v ≡ get_or order r 0 → Inverted order (set table v r) (r + 1)
  inverted-more {v} h e =
      record {
        size = length-set table v r ∙ f.size;
        rank = below_more (λ (k : ℕ). get_or (set table v r) (get_or order k 0) 0 ≡ k) r before here;
      }
    where
      here : get_or (set table v r) (get_or order r 0) 0 ≡ r
      here = rw (sym e) (get_or-set_same table v r 0 (inverted-room h e))

      before : (k : ℕ) → k < r → get_or (set table v r) (get_or order k 0) 0 ≡ k
      before k l =
          let other : get_or order k 0 ≡ v → ⊥ = λ q. omega (arith, l, order-injective order good k r (omega arith) h (q ∙ e)) in
          get_or-set_other table v (get_or order k 0) r 0 other ∙ f.rank k l

  pub inverted-all : length order ≤ r → table ≡ inverse_of order
  unfolding inverse_of
  inverted-all h = tabulate-unique (length order) (rank_of order) table 0 f.size entry
    where
      entry : (i : ℕ) → i < length order → get_or table i 0 ≡ rank_of order i
      entry i l =
          ap (λ (u : ℕ). get_or table u 0) (sym (order-rank order good i l))
          ∙ f.rank (rank_of order i) (omega (arith, rank_below order good i l))
