-- A set of vertex numbers as a bit set in words of 32 bits: v has the bit v / 32,768 of the word v % 32,768. Document 01 has no such
-- set: with it a repeated order entry is found in one run through the order, before anything lent is written. Neighbours in number
-- have different words: an order often runs through neighbours, and a word that was just written is slow to read again.
-- Assumes nothing.
use Rattle.std.specs.Prelude.{List, ℕ, ◌+◌, ◌/◌, ◌%◌, ◌^◌, get_or, set}

-- the words for 1,000,000 vertices, with room to spare: a power of two makes the place of a vertex cheap to find
abbrev pub set_words : ℕ
set_words = 32_768

-- v's bit: 1 if v is in the set, else 0
unfoldable pub bit_at : List ℕ → ℕ → ℕ
bit_at words v = get_or words (v % set_words) 0 / 2 ^ (v / set_words) % 2

-- the set with v, if v was not in it
unfoldable pub set_bit : List ℕ → ℕ → List ℕ
set_bit words v = set words (v % set_words) (get_or words (v % set_words) 0 + 2 ^ (v / set_words))
