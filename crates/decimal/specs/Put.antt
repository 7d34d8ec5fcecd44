-- Text that is stored in a table of bytes, as the functions here promise it to each other and to what writes with them.
-- Assumes nothing.
use Rattle.std.specs.Prelude.{◌≡◌, List, ℕ, ◌+◌, ◌≤◌, length}
use Rattle.std.proofs.lemmas.List.Edits.{sets}

-- the text stands in the table from place `at` on, all of it, and ends before `end`; the rest of the table is as it was
pub record PutText (was : List ℕ) (at : ℕ) (text now : List ℕ) (end : ℕ) : Type 0 where
  pub fits : at + length text ≤ length was
  pub table : now ≡ sets was at text
  pub ends : end ≡ at + length text
