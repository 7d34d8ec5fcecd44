-- The world of a history: any number of nets and link files, each with tables of its own, of any length, holding anything at first;
-- and what a call does to it. A step is made of the very definitions that the calls' contracts equate their outcomes with.
--
-- Document 01, The book of ties: "The list holds starting, adding, joining, saving and reading, accepted or refused, in any mix, over
-- any number of nets and link files (the bytes lent to a save or a reading). Each net and file has tables of its own, of any length;
-- a join is lent two different nets. At first the tables hold anything. .. Translating, dividing and reporting, accepted or refused,
-- may stand between; none of these tables is lent to them to be written." So may indexes and queries (document 02, Paper 1), whose tables
-- are no net's and no file's, and lists of what lies between two vertices (Paper 5), which are lent a net to be read.
-- Assumes nothing.
use Rattle.std.specs.Prelude.{◌≡◌, Bool, cond, List, ℕ, eqb}
use Rattle.game.specs.Net.{Net}
use Rattle.refusal.specs.Verdict.{is_accepted}
use Rattle.refusal.specs.Outcome.{Outcome}
use Rattle.growth.specs.Work.{Work, NetWithWork, with_work}
use Rattle.start.specs.Start.{start_outcome}
use Rattle.add.specs.Add.{add_outcome}
use Rattle.join.specs.Join.{join_outcome}
use Rattle.save.specs.Save.{save_outcome}
use Rattle.read.specs.Read.{read_outcome}
use Rattle.relabel.specs.Relabel.{RelabelTables, relabel_outcome}
use Rattle.divide.specs.Divide.{DivisionTables, divide_outcome}
use Rattle.report.specs.Report.{Lent, report_outcome}
use Rattle.index.specs.Index.{Index}
use Rattle.index.specs.Build.{index_outcome}
use Rattle.query.specs.Query.{query_outcome}
use Rattle.separate.specs.Separate.{SeparateTables, separate_outcome}

-- nets and files by number; a file is its bytes
pub record World : Type 0 where
  pub nets : ℕ → Net
  pub files : ℕ → List ℕ

-- A call, with what it is lent: nets and files by number, anything else by its content. A list of edges is raw numbers, of any
-- length; work tables hold anything.
pub data Call : Type 0 where
  start : (net : ℕ) → Call
  add : (net : ℕ) (edges : List ℕ) (work : Work) → Call
  join : (net other : ℕ) → (net ≡ other → ⊥) → (work : Work) → Call
  save : (net file : ℕ) → Call
  read : (net file : ℕ) → Call
  relabel : (order edges : List ℕ) (tables : RelabelTables) → Call
  divide : (net B k : ℕ) (tables : DivisionTables) → Call
  report : (net B k : ℕ) (edges : List ℕ) (tables : Lent) → Call
  index : (old more : List ℕ) (tables : Index) → Call
  query : (tables : Index) (rank : ℕ) → Call
  separate : (net a b : ℕ) (edges : List ℕ) (tables : SeparateTables) → Call

-- f with the value at i put in the place of the old one
unfoldable pub update : {A : Type 0} → (ℕ → A) → ℕ → A → ℕ → A
update f i x k = cond (eqb k i) x (f k)

abbrev pub with_net : World → ℕ → Net → World
with_net w i net = record { nets = update w.nets i net; files = w.files }

abbrev pub with_file : World → ℕ → List ℕ → World
with_file w f bytes = record { nets = w.nets; files = update w.files f bytes }

-- what a call does: whether it was accepted, and the world after it
pub record Step : Type 0 where
  pub accepted : Bool
  pub world : World

-- by its outcome, and by the world that its tables make
unfoldable pub stepped : {X A : Type 0} → Outcome X A → (A → World) → Step
stepped o world = record { accepted = is_accepted o.verdict; world = world o.tables }

unfoldable pub step : World → Call → Step
step w (start i) = stepped (start_outcome (w.nets i)) (with_net w i)
step w (add i xs work) = stepped (add_outcome (with_work (w.nets i) work) xs) (λ (g : NetWithWork). with_net w i g.net)
step w (join i j different work) = stepped (join_outcome (with_work (w.nets i) work) (w.nets j)) (λ (g : NetWithWork). with_net w i g.net)
step w (save i f) = stepped (save_outcome (w.nets i) (w.files f)) (with_file w f)
step w (read i f) = stepped (read_outcome (w.nets i) (w.files f)) (with_net w i)
step w (relabel order xs tables) = stepped (relabel_outcome order xs tables) (λ (t : RelabelTables). w)
step w (divide i B k tables) = stepped (divide_outcome (w.nets i) B k tables) (λ (t : DivisionTables). w)
step w (report i B k xs tables) = stepped (report_outcome (w.nets i) B k xs tables) (λ (t : Lent). w)
step w (index old more tables) = stepped (index_outcome tables old more) (λ (t : Index). w)
step w (query tables rank) = record { accepted = eqb (query_outcome tables rank).cell 0; world = w }
step w (separate i a b xs tables) = stepped (separate_outcome (w.nets i) a b xs tables) (λ (t : SeparateTables). w)
