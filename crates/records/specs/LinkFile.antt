-- Link files: the bytes of a net, and the net that bytes say.
--
-- Document 01, Files: "Little-endian 32-bit numbers, records of one size, no header. .. Link file: record r is the parent and
-- load of rank r. .. An absent parent is four bytes of FF hexadecimal."
-- Assumes nothing.
use Rattle.std.specs.Prelude.{◌≡◌, refl, List, [], ◌∷◌, ℕ}
use Rattle.words.specs.Word.{word_bytes, bytes_of, words}
use Rattle.game.specs.Game.{absent}
use Rattle.game.specs.Net.{Net}

-- "record r is the parent and load of rank r": a record is two words
unfoldable pub records : List ℕ → List ℕ → List ℕ
records [] weights = []
records (p ∷ parents) [] = []
records (p ∷ parents) (w ∷ weights) = p ∷ w ∷ records parents weights

-- the link file of a net
unfoldable pub link_file : Net → List ℕ
unfolding bytes_of records
link_file net = bytes_of (records net.parents net.weights)

-- "An absent parent is four bytes of FF hexadecimal": absent is FFFFFFFF, so this needs no rule of its own
pub absent-word : word_bytes absent ≡ 0xFF ∷ 0xFF ∷ 0xFF ∷ 0xFF ∷ []
unfolding word_bytes
absent-word = refl

-- the first and the second word of each record
unfoldable pub record_parents : List ℕ → List ℕ
record_parents [] = []
record_parents (p ∷ []) = []
record_parents (p ∷ w ∷ xs) = p ∷ record_parents xs

unfoldable pub record_weights : List ℕ → List ℕ
record_weights [] = []
record_weights (p ∷ []) = []
record_weights (p ∷ w ∷ xs) = w ∷ record_weights xs

-- the net that a link file says
unfoldable pub file_net : List ℕ → Net
unfolding words record_parents record_weights
file_net bytes = record { parents = record_parents (words bytes); weights = record_weights (words bytes) }
