-- Words and their bytes: each gives the other back, and a loop reads words off four bytes at a time.
-- Assumes nothing.
use mathlib.Core.Path.{◌≡◌, refl, ap₂, ◌∙◌}
use mathlib.Core.List.{List, [], ◌∷◌, ◌++◌}
use Prim.Native.Nat.{ℕ, zero, suc, ◌+◌, ◌*◌, ◌/◌, ◌%◌, ◌^◌, ◌≤◌, ◌<◌, suc-le-suc}
use native.Mathlib.Nat.{zero-lt-suc, le_of_suc-le-suc}
use native.Mathlib.Numerals.{add-one, add-two, add-three, add-four}
use native.Mathlib.Omega.{arith}
use lib.ListN.{length, get_or, drop, length-drop}
use lib.Seq.{drop-cons}
use Rattle.std.specs.Int.{w32, from_le_bytes, to_le_bytes}
use Rattle.std.proofs.lemmas.Nat.{from_le_bytes-to_le_bytes_4, le_bytes_4}
use Rattle.game.specs.Table.{Below}
use Rattle.words.specs.Word.{word_bytes, word_of, word_at, bytes_of, words}

pub below-head : {m x : ℕ} {xs : List ℕ} → Below m (x ∷ xs) → x < m
below-head {xs = xs} b = b.each 0 (zero-lt-suc (length xs))

pub below-tail : {m x : ℕ} {xs : List ℕ} → Below m (x ∷ xs) → Below m xs
below-tail b = record { each = λ i h. b.each (suc i) (suc-le-suc h) }

pub below_none : {m : ℕ} → Below m []
below_none = record { each = λ i h. absurd (omega arith) }

pub below-cons : {m x : ℕ} {xs : List ℕ} → x < m → Below m xs → Below m (x ∷ xs)
below-cons {m} {x} {xs} h b = record { each = at }
  where
    at : (i : ℕ) → i < length (x ∷ xs) → get_or (x ∷ xs) i 0 < m
    at zero l = h
    at (suc i) l = b.each i (le_of_suc-le-suc l)

-- the standard library's word of four bytes and its bytes of a word are document 01's
pub word_of-le : (a b c d : ℕ) → word_of a b c d ≡ from_le_bytes w32 (a ∷ b ∷ c ∷ d ∷ [])
unfolding word_of
word_of-le a b c d = omega arith

pub word_bytes-le : (n : ℕ) → word_bytes n ≡ to_le_bytes w32 n
unfolding word_bytes
word_bytes-le n = refl

-- the word of a word's bytes is the word
pub word-of-bytes : (n : ℕ) → n < 2 ^ 32 → word_of (n % 256) (n / 256 % 256) (n / 65536 % 256) (n / 16777216 % 256) ≡ n
word-of-bytes n h = word_of-le _ _ _ _ ∙ from_le_bytes-to_le_bytes_4 n h

-- the bytes of the word of four bytes are the four bytes
pub bytes-of-word : (a b c d : ℕ) → a < 256 → b < 256 → c < 256 → d < 256 → word_bytes (word_of a b c d) ≡ a ∷ b ∷ c ∷ d ∷ []
bytes-of-word a b c d ha hb hc hd = word_bytes-le _ ∙ le_bytes_4 (a ∷ b ∷ c ∷ d ∷ []) _ refl each (word_of-le a b c d)
  where
    each : (i : ℕ) → get_or (a ∷ b ∷ c ∷ d ∷ []) i 0 < 256
    each zero = ha
    each (suc zero) = hb
    each (suc (suc zero)) = hc
    each (suc (suc (suc zero))) = hd
    each (suc (suc (suc (suc i)))) = omega arith

-- words come back from their bytes
pub words-of-bytes : (xs : List ℕ) → Below (2 ^ 32) xs → words (bytes_of xs) ≡ xs
unfolding words bytes_of
words-of-bytes [] h = refl
words-of-bytes (x ∷ xs) h = ap₂ ◌∷◌ (word-of-bytes x (below-head h)) (words-of-bytes xs (below-tail h))

pub bytes-length : (xs : List ℕ) → length (bytes_of xs) ≡ 4 * length xs
unfolding bytes_of
bytes-length [] = refl
bytes-length (x ∷ xs) = omega (arith, bytes-length xs)

pub words-length : (bytes : List ℕ) → length (words bytes) ≡ length bytes / 4
unfolding words
words-length [] = refl
words-length (a ∷ []) = refl
words-length (a ∷ b ∷ []) = refl
words-length (a ∷ b ∷ c ∷ []) = refl
words-length (a ∷ b ∷ c ∷ d ∷ bytes) = omega (arith, words-length bytes)

-- bytes come back from their words, where they are whole words
pub bytes-of-words : (bytes : List ℕ) → Below 256 bytes → length bytes % 4 ≡ 0 → bytes_of (words bytes) ≡ bytes
unfolding words bytes_of
bytes-of-words [] h w = refl
bytes-of-words (a ∷ []) h w = absurd (omega arith)
bytes-of-words (a ∷ b ∷ []) h w = absurd (omega arith)
bytes-of-words (a ∷ b ∷ c ∷ []) h w = absurd (omega arith)
bytes-of-words (a ∷ b ∷ c ∷ d ∷ bytes) h w =
    ap₂ ◌++◌
    (bytes-of-word a b c d (below-head h) (below-head (below-tail h)) (below-head (below-tail (below-tail h))) (below-head (below-tail (below-tail (below-tail h)))))
    (bytes-of-words bytes (below-tail (below-tail (below-tail (below-tail h)))) (omega arith))

-- what is left of a file at i is the word that stands there and what is left four bytes on
pub words-drop : (bytes : List ℕ) (i : ℕ) → i + 4 ≤ length bytes → words (drop i bytes) ≡ word_at bytes i ∷ words (drop (i + 4) bytes)
unfolding words word_at
words-drop bytes i h =
    let h₀ : i < length bytes = omega arith in
    let h₁ : suc i < length bytes = omega arith in
    let h₂ : suc (suc i) < length bytes = omega arith in
    let h₃ : suc (suc (suc i)) < length bytes = omega arith in
    rw (add-one, add-two, add-three, add-four, drop-cons bytes i 0, drop-cons bytes (suc i) 0, drop-cons bytes (suc (suc i)) 0, drop-cons bytes (suc (suc (suc i))) 0)

words-short : (bytes : List ℕ) → length bytes < 4 → words bytes ≡ []
unfolding words
words-short [] h = refl
words-short (a ∷ []) h = refl
words-short (a ∷ b ∷ []) h = refl
words-short (a ∷ b ∷ c ∷ []) h = refl
words-short (a ∷ b ∷ c ∷ d ∷ bytes) h = absurd (omega arith)

-- at the end nothing is left
pub words-end : (bytes : List ℕ) (i : ℕ) → length bytes < i + 4 → words (drop i bytes) ≡ []
words-end bytes i h = words-short (drop i bytes) (simp length-drop (omega arith))
