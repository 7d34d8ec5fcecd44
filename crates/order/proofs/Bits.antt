-- Setting a bit that is 0 by a sum: the bit is then 1, every other bit is as it was, and the word does not overflow.
-- Assumes nothing.
use mathlib.Core.Path.{◌≡◌, refl, sym, ap, ◌∙◌}
use mathlib.Core.Logic.{by_cases}
use mathlib.Core.List.{List}
use Prim.Native.Nat.{ℕ, zero, suc, ◌+◌, ◌-◌, ◌*◌, ◌/◌, ◌%◌, ◌^◌, ◌<◌}
use native.Mathlib.Nat.{add-div_right, add-mul-div_left, div-lt_iff_lt-mul, one-mul, zero-div}
use native.Mathlib.Decide.{dec_lt, ℕ_discrete}
use native.Mathlib.Omega.{arith}
use lib.Pow.{pow_pos, pow-add, shl_exact, shr_lt, shr-shr}
use lib.ListN.{length, get_or, set, replicate}
use lib.Seq.{get_or-set_same, get_or-set_other}
use Rattle.refusal.specs.Limits.{max_vertices}
use Rattle.order.specs.VertexSet.{set_words, bit_at, set_bit}

-- 1 << b
one_shifted : (b : ℕ) → b < 32 → (1 * 2 ^ b) % 2 ^ 32 ≡ 2 ^ b
one_shifted b h = shl_exact {a = 1} 1 b 32 (omega arith) (omega arith) ∙ one-mul (2 ^ b)

module _ (x b : ℕ) (clear : x / 2 ^ b % 2 ≡ 0) where
  next : (x + 2 ^ b) / 2 ^ b ≡ x / 2 ^ b + 1
  next = add-div_right x (pow_pos b)

  word-bit-same : (x + 2 ^ b) / 2 ^ b % 2 ≡ 1
  word-bit-same = omega (arith, next)

  word-above : (d : ℕ) → (x + 2 ^ b) / 2 ^ (b + (1 + d)) ≡ x / 2 ^ (b + (1 + d))
  word-above d =
      sym (shr-shr (x + 2 ^ b) b (1 + d))
      ∙ sym (shr-shr ((x + 2 ^ b) / 2 ^ b) 1 d)
      ∙ ap (λ (y : ℕ). y / 2 ^ d) half
      ∙ shr-shr (x / 2 ^ b) 1 d
      ∙ shr-shr x b (1 + d)
    where
      half : (x + 2 ^ b) / 2 ^ b / 2 ≡ x / 2 ^ b / 2
      half = omega (arith, next)

  word_below : (c d : ℕ) → b ≡ c + (1 + d) → (x + 2 ^ b) / 2 ^ c ≡ x / 2 ^ c + 2 * 2 ^ d
  word_below c d e =
      ap (λ (y : ℕ). (x + y) / 2 ^ c) (ap (λ (k : ℕ). 2 ^ k) e ∙ pow-add 2 c (1 + d))
      ∙ add-mul-div_left x (2 ^ (1 + d)) (pow_pos c)
      ∙ ap (λ (y : ℕ). x / 2 ^ c + y) (pow-add 2 1 d)

  word-bit-other : (c : ℕ) → (c ≡ b → ⊥) → (x + 2 ^ b) / 2 ^ c % 2 ≡ x / 2 ^ c % 2
  word-bit-other c h =
      by_cases (dec_lt c b)
      (λ (l : c < b). omega (arith, word_below c (b - c - 1) (omega arith)))
      (λ (g : c < b → ⊥). let e : c ≡ b + (1 + (c - b - 1)) = omega arith in rw e (ap (λ (y : ℕ). y % 2) (word-above (c - b - 1))))

  -- the sum stays within a word of b + 1 + d bits
  room : (d : ℕ) → x < 2 ^ (1 + d + b) → x + 2 ^ b < 2 ^ (1 + d + b)
  room d h =
      rw (pow-add 2 (1 + d) b)
      ((div-lt_iff_lt-mul (pow_pos b)).0 (omega (arith, next, shr_lt (1 + d) b h, pow-add 2 1 d)))

  word_room : b < 32 → x < 2 ^ 32 → x + 2 ^ b < 2 ^ 32
  word_room hb hx = let e : 1 + (31 - b) + b ≡ 32 = omega arith in rw e at (room (31 - b) (rw e hx))

-- a number is told by its word and its bit
number-split : (v w : ℕ) → v % set_words ≡ w % set_words → v / set_words ≡ w / set_words → v ≡ w
number-split v w p q = omega arith

-- every vertex has a bit in a word
bit_below : (v : ℕ) → v < max_vertices → v / set_words < 32
bit_below v h = omega arith

-- setting a bit as code does it, in a word of 32 bits
pub set-bit-shifted : (words : List ℕ) (v : ℕ) → v < max_vertices → set words (v % set_words) (get_or words (v % set_words) 0 + (1 * 2 ^ (v / set_words)) % 2 ^ 32) ≡ set_bit words v
unfolding set_bit
set-bit-shifted words v h = rw (one_shifted (v / set_words) (bit_below v h))

module _ (words : List ℕ) (v : ℕ) (clear : bit_at words v ≡ 0) where
  pub set-bit-fits : v < max_vertices → get_or words (v % set_words) 0 < 2 ^ 32 → get_or words (v % set_words) 0 + (1 * 2 ^ (v / set_words)) % 2 ^ 32 < 2 ^ 32
  unfolding bit_at
  set-bit-fits l h = rw (one_shifted (v / set_words) (bit_below v l)) (word_room (get_or words (v % set_words) 0) (v / set_words) clear (bit_below v l) h)

  pub set-bit-same : v % set_words < length words → bit_at (set_bit words v) v ≡ 1
  unfolding bit_at set_bit
  set-bit-same h =
      rw (get_or-set_same words (v % set_words) (get_or words (v % set_words) 0 + 2 ^ (v / set_words)) 0 h)
      (word-bit-same (get_or words (v % set_words) 0) (v / set_words) clear)

  pub set-bit-other : v % set_words < length words → (w : ℕ) → (w ≡ v → ⊥) → bit_at (set_bit words v) w ≡ bit_at words w
  unfolding bit_at set_bit
  set-bit-other h w d =
      by_cases (ℕ_discrete (w % set_words) (v % set_words))
      (λ (e : w % set_words ≡ v % set_words).
      rw (e, get_or-set_same words (v % set_words) (get_or words (v % set_words) 0 + 2 ^ (v / set_words)) 0 h)
      (word-bit-other (get_or words (v % set_words) 0) (v / set_words) clear (w / set_words) (λ q. d (number-split w v e q))))
      (λ (n : w % set_words ≡ v % set_words → ⊥). rw (get_or-set_other words (v % set_words) (w % set_words) (get_or words (v % set_words) 0 + 2 ^ (v / set_words)) 0 n))

-- words that are 0 hold no vertex
pub bit-none : (n v : ℕ) → bit_at (replicate n 0) v ≡ 0
unfolding bit_at
bit-none n v = rw (zero-entry n (v % set_words), zero-div (2 ^ (v / set_words)))
  where
    zero-entry : (n i : ℕ) → ◌≡◌ {A = ℕ} (get_or (replicate n 0) i 0) 0
    zero-entry zero i = refl
    zero-entry (suc n) zero = refl
    zero-entry (suc n) (suc i) = zero-entry n i
