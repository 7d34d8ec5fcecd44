-- A tie as the code has it, and the ties of a flat list that are still to come.
-- Assumes nothing.
use Rattle.std.specs.Prelude.{List}
use Rattle.game.specs.Edge.{Tie as GameTie, ◌─◌, tie_of, ties}
use Rattle.edge.specs.declared.tie.Tie.{Tie}
use Rattle.edge.specs.declared.tie.Iter.{Iter}

-- the tie that is written so
abbrev pub written : Tie → GameTie
written t = tie_of (t.a ─ t.b) t.rows

-- those that an iterator has still to give
abbrev pub ties_left : Iter → List GameTie
ties_left s = ties s.list.now
