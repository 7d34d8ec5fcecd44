-- The round trips of link files, over the calls: a link file reads back as the net that it was saved from, and saving a net that was read
-- from a file gives that file's bytes.
--
-- Document 01: "Save and read link files"; "Link file: record r is the parent and load of rank r."
-- Assumes nothing.
use Rattle.std.specs.Prelude.{◌≡◌, List, ℕ, ◌*◌, length}
use Rattle.game.specs.Net.{Net}
use Rattle.refusal.specs.Verdict.{accepted}
use Rattle.refusal.specs.Outcome.{ended}
use Rattle.save.specs.Save.{save_outcome}
use Rattle.read.specs.Read.{read_outcome}

-- what was saved, read into any tables of n entries, is accepted and leaves the net
pub record ReadsBack (of : Net) (saved : List ℕ) : Type 0 where
  pub reads : (into : Net) → length into.parents ≡ length of.parents → length into.weights ≡ length of.parents
      → read_outcome into saved ≡ ended (accepted tt) of

-- what was read, saved into any table of 8 × n bytes, is accepted and leaves the file's own bytes
pub record SavesBack (n : ℕ) (bytes : List ℕ) (of : Net) : Type 0 where
  pub saves : (room : List ℕ) → length room ≡ 8 * n → save_outcome of room ≡ ended (accepted tt) bytes
