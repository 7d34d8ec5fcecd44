-- The tables that dividing is lent: the struct of the code, as the record that its contracts speak of, and which slices they are.
-- Assumes nothing.
use Rattle.std.specs.Prelude.{◌≡◌}
use Rattle.divide.specs.Divide.{DivisionTables, division_of}
use Rattle.divide.specs.declared.tables.Division.{Division as Lent}

-- what the lent slices hold
abbrev pub held : Lent → DivisionTables
held d = division_of d.carried.now d.top.now d.block.now d.loads.now

-- after a call, the lent slices are the same ones
pub record SameTables (was is : Lent) : Type 0 where
  pub carried : is.carried.ghost_name ≡ was.carried.ghost_name
  pub top : is.top.ghost_name ≡ was.top.ghost_name
  pub block : is.block.ghost_name ≡ was.block.ghost_name
  pub loads : is.loads.ghost_name ≡ was.loads.ghost_name
