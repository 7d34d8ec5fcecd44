-- What the steps of a report hand on to each other. No public promise speaks of it.
-- Assumes nothing.
use Rattle.std.specs.Prelude.{◌≡◌, List, ℕ, ◌<◌, length}
use Rattle.game.specs.Table.{tabulate}
use Rattle.game.specs.Edge.{Edge}
use Rattle.game.specs.Net.{Net, net, reach}
use Rattle.bucket.specs.Filed.{Filed}
use Rattle.growth.specs.Work.{Work, cleared}
use Rattle.divide.specs.Divide.{DivisionTables, divided}
use Rattle.divide.specs.Steps.{Fitting}
use Rattle.cut.specs.Steps.{Divisible}
use Rattle.reach_slots.specs.Given.{Given, lower_counts}
use Rattle.cost.specs.declared.Totals.{Totals}
use Rattle.cost.specs.Figures.{totals_of}
use Rattle.report_write.specs.Written.{Written, figures}

-- What writing is given: a net that is the net of its edges, which are filed, that Divide accepts, and tables that fit.
pub record Reportable (p w : List ℕ) (B : ℕ) (es : List Edge) (ends lower : List ℕ) (was : DivisionTables) (blocks reach block_count : List ℕ) : Type 0 where
  pub some : 0 < length p
  pub own : Given p (lower_counts (length p) es) es
  pub filed : Filed (length p) es ends lower
  pub divisible : Divisible p w B
  pub division : Fitting (length p) was
  pub edge_blocks : length blocks ≡ length es
  pub reaches : length reach ≡ length p
  pub counts : length block_count ≡ length p

-- what the first step leaves
pub record Spread (p w : List ℕ) (B k : ℕ) (es : List Edge) (division : DivisionTables) (reaches : List ℕ) : Type 0 where
  pub divided_so : division ≡ divided (net p w) B k
  pub reached : reaches ≡ tabulate (length p) (reach p es)

-- what writing leaves and answers
pub record ReportWritten (of : Net) (B k : ℕ) (es : List Edge) (work : Work) (r : Totals) (written : Written) (work' : Work) : Type 0 where
  pub answers : r ≡ totals_of of es B k
  pub writes : written ≡ figures of B k es
  pub clear : work' ≡ cleared work
