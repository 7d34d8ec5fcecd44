-- The one theorem over every list of calls: its statement.
--
-- Document 01: "After the calls each net with a list holds the net of it, which is also the net of the same ties in any other order; each
-- file with a list holds the link file of the net of its own list. For every B and k that Divide accepts on a net with a list, the volume,
-- taken with that list, is at most the bound. Report lent that list is never refused with 23 and, where accepted, answers this volume and
-- this bound." Document 02, Paper 5: "a call given the net's own ties .. treats them .. as Report does. Every chain of ties from one to the
-- other passes a mark of the list."
-- Document 02, Paper 6: "The rule on any history of joins is then read with row sums"; "a net's list there may pass 16,000,000 ties, and a
-- report lent it is then 20".
-- Assumes nothing.
use Rattle.std.specs.Prelude.{◌≡◌, List, [], ◌∷◌, ℕ, ◌*◌, ◌≤◌, length, take}
use Rattle.std.proofs.Math.Option.{some}
use Rattle.game.specs.Edge.{Edge, Tie, without_rows, ties}
use Rattle.game.specs.Net.{Net, net_of}
use Rattle.game.specs.Graph.{SameTies}
use Rattle.refusal.specs.Verdict.{Verdict, accepted, refused}
use Rattle.refusal.specs.Outcome.{Outcome}
use Rattle.records.specs.LinkFile.{link_file}
use Rattle.cost.specs.declared.Totals.{Totals}
use Rattle.cost.specs.Figures.{bound_of, volume_of, totals_of}
use Rattle.report.specs.Report.{Lent, report_outcome}
use Rattle.ancestry.specs.declared.Separator.{Separator}
use Rattle.separate.specs.Separate.{SeparateTables, separate_outcome}
use Rattle.separate.specs.Separates.{Separates}
use Rattle.history.specs.World.{World, Call, step}
use Rattle.history.specs.Book.{NetRecord, FileRecord, Book, entry, note}

-- the world and the book after a list of calls: "Each call finds every net and file as the call before left it"
unfoldable pub world_after : World → List Call → World
world_after w [] = w
world_after w (c ∷ cs) = world_after (step w c).world cs

unfoldable pub book_after : World → Book → List Call → Book
book_after w b [] = b
book_after w b (c ∷ cs) = book_after (step w c).world (note b (entry c) (step w c).accepted) cs

-- what a report, lent the list of a net, answers
pub record Reports (net : Net) (es : List Edge) (B k : ℕ) (verdict : Verdict Totals) : Type 0 where
  pub never_23 : verdict ≡ refused 23 → ⊥
  pub answers : (totals : Totals) → verdict ≡ accepted totals → totals ≡ totals_of net es B k

-- what the call that separates two vertices, lent the list of a net, answers and lists
pub record Separated (net : Net) (es : List Edge) (a b : ℕ) (outcome : Outcome Separator SeparateTables) : Type 0 where
  pub never_23 : outcome.verdict ≡ refused 23 → ⊥
  pub separates : (its : Separator) → outcome.verdict ≡ accepted its → Separates net.parents es a b its.lowest (take its.count outcome.tables.listed)

-- what a net with a list holds
pub record NetHolds (net : Net) (ts : List Tie) : Type 0 where
  pub is : net ≡ net_of (length net.parents) ts
  -- in any other order, and with the ends of any tie turned
  pub any_order : (us : List Tie) → SameTies ts us → net ≡ net_of (length net.parents) us
  -- for every B and k, so for those too that Divide accepts
  pub volume_bound : (B k : ℕ) → volume_of net (without_rows ts) B k ≤ bound_of net (without_rows ts) B k
  -- lent any numbers that read as the list, and tables of any lengths, holding anything
  pub reports : (B k : ℕ) (xs : List ℕ) (tables : Lent) → ties xs ≡ ts → Reports net (without_rows ts) B k (report_outcome net B k xs tables).verdict
  pub separates : (a b : ℕ) (xs : List ℕ) (tables : SeparateTables) → ties xs ≡ ts → Separated net (without_rows ts) a b (separate_outcome net a b xs tables)

-- what a file with a list holds
pub record FileHolds (bytes : List ℕ) (ts : List Tie) : Type 0 where
  pub vertices : ℕ
  pub whole : length bytes ≡ 8 * vertices
  pub is : bytes ≡ link_file (net_of vertices ts)

-- every net and file with a list in the book holds what its list demands
pub record Holds (w : World) (b : Book) : Type 0 where
  pub nets : (i : ℕ) (r : NetRecord) → b.nets i ≡ some r → NetHolds (w.nets i) r.ties
  pub files : (f : ℕ) (r : FileRecord) → b.files f ≡ some r → FileHolds (w.files f) r.ties
