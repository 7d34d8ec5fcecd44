-- The share is even, and no other is.
-- Assumes nothing.
use mathlib.Core.Path.{◌≡◌, refl, sym, ap₂, subst, ◌∙◌}
use Prim.Native.Nat.{ℕ, ◌+◌, ◌*◌, ◌<◌}
use native.Mathlib.Nat.{div-add-mod', mod-lt}
use lib.Arith.{digits_div, digits_mod}
use Rattle.share.specs.declared.Share.{Share}
use Rattle.share.specs.Share.{share, even_share, check_sum, Even}

-- the quotient and the remainder of a sum that is put together of them
put-together : (q r k : ℕ) → r < k → share q r k ≡ even_share (q * k + r) k
unfolding even_share
put-together q r k h i = share (sym (digits_div q h) i) (sym (digits_mod q h) i) k

pub share-even : (total k : ℕ) → 0 < k → Even total k (even_share total k)
unfolding even_share check_sum
share-even total k some = record { among = refl; sums = div-add-mod' total k; below = mod-lt total some }

-- no other share is even
pub share-once : (total k : ℕ) (s : Share) → Even total k s → s ≡ even_share total k
unfolding check_sum
share-once total k s e =
    put-together s.quotient s.remainder s.blocks (subst (λ (n : ℕ). s.remainder < n) (sym e.among) e.below)
    ∙ ap₂ even_share e.sums e.among
