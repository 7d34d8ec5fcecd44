-- What the calls leave is sound: after an accepted start, add, join or read no call refuses the net with 30.
-- Of two nets that are joined the other has to be sound too: it is where a call left it.
-- Assumes nothing.
use Rattle.std.specs.Prelude.{◌≡◌, List, ℕ}
use Rattle.std.proofs.Math.Option.{Option, none, some}
use Rattle.game.specs.Net.{Net}
use Rattle.refusal.specs.Verdict.{refused}
use Rattle.growth.specs.Work.{Work, NetWithWork, with_work}
use Rattle.add.specs.Add.{add_outcome}
use Rattle.join.specs.Join.{join_outcome}
use Rattle.forest.specs.Promise.{Valid}
use Rattle.save.specs.Save.{save_outcome}
use Rattle.divide.specs.Divide.{DivisionTables, divide_outcome}
use Rattle.report.specs.Report.{Lent, report_outcome}
use Rattle.separate.specs.Separate.{SeparateTables, separate_outcome}
use Rattle.history.specs.World.{Call, start, add, join, save, read, relabel, divide, report, index, query, separate}

-- the net that a call writes when it is accepted
unfoldable pub net_written : Call → Option ℕ
net_written (start i) = some i
net_written (add i xs work) = some i
net_written (join i j different work) = some i
net_written (save i f) = none
net_written (read i f) = some i
net_written (relabel order xs tables) = none
net_written (divide i B k tables) = none
net_written (report i B k xs tables) = none
net_written (index old more tables) = none
net_written (query tables rank) = none
net_written (separate i a b xs tables) = none

-- whatever else a call is lent
pub record Never30 (of : Net) : Type 0 where
  pub valid : Valid of
  pub add : (work : Work) (xs : List ℕ) → (add_outcome (with_work of work) xs).verdict ≡ refused 30 → ⊥
  pub join : (work : Work) (other : Net) → Valid other → (join_outcome (with_work of work) other).verdict ≡ refused 30 → ⊥
  pub joined : (g : NetWithWork) → Valid g.net → (join_outcome g of).verdict ≡ refused 30 → ⊥
  pub save : (bytes : List ℕ) → (save_outcome of bytes).verdict ≡ refused 30 → ⊥
  pub divide : (B k : ℕ) (tables : DivisionTables) → (divide_outcome of B k tables).verdict ≡ refused 30 → ⊥
  pub report : (B k : ℕ) (xs : List ℕ) (tables : Lent) → (report_outcome of B k xs tables).verdict ≡ refused 30 → ⊥
  pub separate : (a b : ℕ) (xs : List ℕ) (tables : SeparateTables) → (separate_outcome of a b xs tables).verdict ≡ refused 30 → ⊥
