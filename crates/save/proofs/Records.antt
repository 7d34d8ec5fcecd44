-- Records of a link file, as a loop writes them one at a time.
-- Assumes nothing.
use mathlib.Core.Path.{◌≡◌}
use mathlib.Core.List.{List, ◌++◌, append_assoc, append-nil}
use Prim.Native.Nat.{ℕ, ◌+◌, ◌*◌, ◌≤◌, ◌<◌}
use native.Mathlib.Numerals.{add-one}
use native.Mathlib.Omega.{arith}
use lib.ListN.{length, get_or, take, drop, drop_of_length-le}
use lib.Seq.{drop-cons, take_all, sets}
use Rattle.words.specs.Word.{word_bytes, bytes_of}
use Rattle.words.proofs.Stores.{stores-append, stores-take}
use Rattle.game.specs.Net.{net as lent}
use Rattle.records.specs.LinkFile.{records, link_file}

-- the stores of two words are those of a record
pub record-stores : (bytes : List ℕ) (at p w : ℕ) → sets (sets bytes at (word_bytes p)) (at + 4) (word_bytes w) ≡ sets bytes at (word_bytes p ++ word_bytes w)
unfolding word_bytes
record-stores bytes at p w = stores-append bytes (word_bytes p) (word_bytes w) at

-- A loop that saves, at rank r of a net: the records before it are in the bytes, and what is left are those from r on.
module _ (parents weights bytes : List ℕ) (r : ℕ) where
  pub save-turn : (after : List ℕ) → length weights ≡ length parents → length bytes ≡ 8 * length parents → r < length parents
      → after ≡ sets bytes (8 * r) (word_bytes (get_or parents r 0) ++ word_bytes (get_or weights r 0))
      → take (8 * (r + 1)) after ++ link_file (lent (drop (r + 1) parents) (drop (r + 1) weights))
      ≡ take (8 * r) bytes ++ link_file (lent (drop r parents) (drop r weights))
  unfolding link_file records bytes_of word_bytes
  save-turn after ew eb h stored =
      let e : 8 * (r + 1) ≡ 8 * r + 8 = omega arith in
      let hw : r < length weights = omega arith in
      rw (stored, e, add-one, drop-cons parents r 0 h, drop-cons weights r 0 hw, stores-take bytes (word_bytes (get_or parents r 0) ++ word_bytes (get_or weights r 0)) (8 * r) (omega arith), append_assoc)

  -- at the end all are in the bytes
  pub save-end : length bytes ≡ 8 * length parents → length parents ≤ r → take (8 * r) bytes ++ link_file (lent (drop r parents) (drop r weights)) ≡ bytes
  unfolding link_file records bytes_of
  save-end e h = rw (drop_of_length-le parents h, append-nil) (take_all (8 * r) bytes (omega arith))
