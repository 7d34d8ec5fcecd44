-- The tables that a report is lent: the structs of the code, as the record that its contracts speak of, and which slices they are.
-- Assumes nothing.
use Rattle.std.specs.Prelude.{◌≡◌}
use Rattle.divide.specs.declared.tables.Division.{Division}
use Rattle.divide.specs.Tables.{held}
use Rattle.report_write.specs.Written.{Written, written}
use Rattle.report_write.specs.declared.tables.Figures.{Figures}

-- what the lent slices hold
abbrev pub written_in : Division → Figures → Written
written_in d f = written (held d) f.edge_blocks.now f.reach.now f.block_count.now f.edges_taken.now

-- after a call, the lent slices are the same ones
pub record SameFigures (was is : Figures) : Type 0 where
  pub edge_blocks : is.edge_blocks.ghost_name ≡ was.edge_blocks.ghost_name
  pub reach : is.reach.ghost_name ≡ was.reach.ghost_name
  pub block_count : is.block_count.ghost_name ≡ was.block_count.ghost_name
  pub edges_taken : is.edges_taken.ghost_name ≡ was.edges_taken.ghost_name
