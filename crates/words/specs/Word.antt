-- Files as numbers. Document 01: "Little-endian 32-bit numbers, records of one size, no header."
-- A file is a list of bytes; a word is a number below 2 ^ 32, kept in four bytes, the lowest first.
-- Assumes nothing.
use Rattle.std.specs.Prelude.{List, [], ◌∷◌, ◌++◌, ℕ, ◌+◌, ◌*◌, ◌/◌, ◌%◌, get_or}

-- the four bytes of a word
unfoldable pub word_bytes : ℕ → List ℕ
word_bytes n = n % 256 ∷ n / 256 % 256 ∷ n / 65536 % 256 ∷ n / 16777216 % 256 ∷ []

-- the word of four bytes
unfoldable pub word_of : ℕ → ℕ → ℕ → ℕ → ℕ
word_of a b c d = a + 256 * b + 65536 * c + 16777216 * d

-- the word of the four bytes from place i on
unfoldable pub word_at : List ℕ → ℕ → ℕ
unfolding word_of
word_at bytes i = word_of (get_or bytes i 0) (get_or bytes (i + 1) 0) (get_or bytes (i + 2) 0) (get_or bytes (i + 3) 0)

-- the bytes of a list of words
unfoldable pub bytes_of : List ℕ → List ℕ
unfolding word_bytes
bytes_of [] = []
bytes_of (x ∷ xs) = word_bytes x ++ bytes_of xs

-- the words of a list of bytes; a part of a word at the end is left out
unfoldable pub words : List ℕ → List ℕ
unfolding word_of
words [] = []
words (a ∷ []) = []
words (a ∷ b ∷ []) = []
words (a ∷ b ∷ c ∷ []) = []
words (a ∷ b ∷ c ∷ d ∷ bytes) = word_of a b c d ∷ words bytes
