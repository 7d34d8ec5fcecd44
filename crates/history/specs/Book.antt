-- The book of ties: for each net and file a record with a list of ties, or none.
--
-- Document 01: "The book is fed which nets and file each call was lent, the tie list of an addition, and whether the call was
-- accepted. It never looks into parents, loads or a file's bytes. For each net and file it keeps a list of ties in ranks, or none. At
-- first all have none." Document 02, Paper 6: "the book keeps each tie with its rows".
-- Assumes nothing.
use Rattle.std.specs.Prelude.{Bool, true, false, List, [], ◌++◌, ℕ}
use Rattle.std.proofs.Math.Option.{Option, none, some}
use Rattle.game.specs.Edge.{Tie, ties}
use Rattle.history.specs.World.{Call, start, add, join, save, read, relabel, divide, report, index, query, separate, update}

-- what is kept of a net with a list: its ties, each with its rows
pub record NetRecord : Type 0 where
  pub ties : List Tie

-- what is kept of a file with a list: the ties of the net that was saved to it. A type of its own, so that a file's list may have beside
-- it what a net's has not.
pub record FileRecord : Type 0 where
  pub ties : List Tie

pub record Book : Type 0 where
  pub nets : ℕ → Option NetRecord
  pub files : ℕ → Option FileRecord

-- what the book is fed of a call
pub data Entry : Type 0 where
  started : (net : ℕ) → Entry
  added : (net : ℕ) (ties : List ℕ) → Entry
  joined : (net other : ℕ) → Entry
  saved : (net file : ℕ) → Entry
  loaded : (net file : ℕ) → Entry
  passed : Entry

unfoldable pub entry : Call → Entry
entry (start i) = started i
entry (add i xs work) = added i xs
entry (join i j different work) = joined i j
entry (save i f) = saved i f
entry (read i f) = loaded i f
entry (relabel order xs tables) = passed
entry (divide i B k tables) = passed
entry (report i B k xs tables) = passed
entry (index old more tables) = passed
entry (query tables rank) = passed
entry (separate i a b xs tables) = passed

-- a list behind a list; none, if either is none
unfoldable pub behind : Option NetRecord → Option NetRecord → Option NetRecord
behind none b = none
behind (some r) none = none
behind (some r) (some s) = some (record { ties = r.ties ++ s.ties })

-- a file's record from that of the net that is saved to it, and a net's from that of the file that is read into it
unfoldable pub saved_record : Option NetRecord → Option FileRecord
saved_record none = none
saved_record (some r) = some (record { ties = r.ties })

unfoldable pub loaded_record : Option FileRecord → Option NetRecord
loaded_record none = none
loaded_record (some r) = some (record { ties = r.ties })

-- an accepted call's entry:
-- "Start: the net's list is empty, with no tie in it.
--  Add: the ties given go behind the net's list. A net that has none keeps none.
--  Join: the second net's list goes behind the first's. If either has none, the first then has none.
--  Save: the file gets the net's list, or none if the net has none.
--  Read: the net gets the file's list, or none if the file has none."
unfoldable pub enter : Book → Entry → Book
enter b (started i) = record { nets = update b.nets i (some (record { ties = [] })); files = b.files }
enter b (added i xs) = record { nets = update b.nets i (behind (b.nets i) (some (record { ties = ties xs }))); files = b.files }
enter b (joined i j) = record { nets = update b.nets i (behind (b.nets i) (b.nets j)); files = b.files }
enter b (saved i f) = record { nets = b.nets; files = update b.files f (saved_record (b.nets i)) }
enter b (loaded i f) = record { nets = update b.nets i (loaded_record (b.files f)); files = b.files }
enter b passed = b

-- "Refused: nothing changes." The book is told whether the call was accepted.
unfoldable pub note : Book → Entry → (accepted : Bool) → Book
note b e true = enter b e
note b e false = b

-- "At first all have none."
unfoldable pub blank : Book
blank = record { nets = λ i. none; files = λ f. none }
