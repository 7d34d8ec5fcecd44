-- What is known of work tables whose lengths are not refused, and of cleared ones.
-- Assumes nothing.
use mathlib.Core.Path.{◌≡◌, refl}
use mathlib.Core.Bool.{Bool, true, false, ◌||◌, true≢false}
use mathlib.Core.List.{List}
use Prim.Native.Nat.{ℕ}
use lib.ListN.{length, replicate}
use Rattle.refusal.specs.Refusal.{wrong_length}
use Rattle.refusal.proofs.First.{length-right}
use Rattle.growth.specs.Work.{Work, work_of, bad_work, zeros, cleared}

module _ (n m : ℕ) (w : Work) where
  pub good-work : bad_work n m w ≡ false → (length w.ends ≡ n) × (length w.jump ≡ n) × (length w.lower ≡ m)
  unfolding bad_work
  good-work e = go (wrong_length (length w.ends) n) (wrong_length (length w.jump) n) refl refl e
    where
      go : (a b : Bool) → wrong_length (length w.ends) n ≡ a → wrong_length (length w.jump) n ≡ b → (a || b || wrong_length (length w.lower) m) ≡ false → (length w.ends ≡ n) × (length w.jump ≡ n) × (length w.lower ≡ m)
      go true b p q r = absurd (true≢false r)
      go false true p q r = absurd (true≢false r)
      go false false p q r = (length-right _ n p, length-right _ n q, length-right _ m r)

-- three tables of zeros are cleared work tables
pub work-cleared : (ends jump lower : List ℕ) {ends' jump' lower' : List ℕ} → ends' ≡ replicate (length ends) 0 → jump' ≡ replicate (length jump) 0 → lower' ≡ replicate (length lower) 0 → work_of ends' jump' lower' ≡ cleared (work_of ends jump lower)
unfolding cleared zeros
work-cleared ends jump lower e f g = λ i. work_of (e i) (f i) (g i)

-- work tables are cleared by their lengths, whatever was written on the way
pub same-room : (ends jump lower ends₀ jump₀ lower₀ : List ℕ) → length ends ≡ length ends₀ → length jump ≡ length jump₀ → length lower ≡ length lower₀ → cleared (work_of ends jump lower) ≡ cleared (work_of ends₀ jump₀ lower₀)
unfolding cleared zeros
same-room ends jump lower ends₀ jump₀ lower₀ e f g = λ i. work_of (replicate (e i) 0) (replicate (f i) 0) (replicate (g i) 0)
