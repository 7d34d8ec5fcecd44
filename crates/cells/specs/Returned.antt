-- An outcome as it crosses the boundary: the verdict as its number, 0 for accepted, beside the tables; the values of an accepted call, the
-- totals of a report, where the forest moved or what lies between two vertices, go to cells, which a refusal leaves as they were. No refusal
-- has the number 0, so nothing is lost.
-- Assumes nothing.
use Rattle.std.specs.Prelude.{ℕ, Option}
use Rattle.refusal.specs.Verdict.{Verdict, accepted, refused, number}
use Rattle.refusal.specs.Outcome.{Outcome, Done}
use Rattle.moved.specs.Moved.{moved_rank}
use Rattle.cost.specs.declared.Totals.{Totals}
use Rattle.ancestry.specs.declared.Separator.{Separator}
use Rattle.ancestry.specs.Answer.{lowest_rank}

pub record Returned (A : Type 0) : Type 0 where
  pub number : ℕ
  pub tables : A

-- what a call returned with, and what it has to
abbrev pub returned : {A : Type 0} → ℕ → A → Returned A
returned k t = record { number = k; tables = t }

unfoldable pub handed : {A : Type 0} → Done A → Returned A
handed o = returned (number o.verdict) o.tables

-- the same with the cells for the values of an accepted call
pub record FilledCells (C A : Type 0) : Type 0 where
  pub number : ℕ
  pub cells : C
  pub tables : A

abbrev pub filled_cells : {C A : Type 0} → ℕ → C → A → FilledCells C A
filled_cells k c t = record { number = k; cells = c; tables = t }

-- the cells after a verdict, by how they hold its values
unfoldable pub told : {X C : Type 0} → (X → C) → Verdict X → C → C
told hold (accepted values) was = hold values
told hold (refused k) was = was

-- the cells of a report: bound and volume, and of the even share what each block gets and what is left over
pub record TotalsCells : Type 0 where
  pub bound : ℕ
  pub volume : ℕ
  pub quotient : ℕ
  pub remainder : ℕ

abbrev pub cells : (bound volume quotient remainder : ℕ) → TotalsCells
cells b v q r = record { bound = b; volume = v; quotient = q; remainder = r }

unfoldable pub cells_of : Totals → TotalsCells
cells_of t = cells t.bound t.volume t.share.quotient t.share.remainder

-- the cells of what lies between two vertices: how many vertices that is, and the lowest
pub record SeparatorCells : Type 0 where
  pub count : ℕ
  pub lowest : ℕ

abbrev pub separator_cells : (count lowest : ℕ) → SeparatorCells
separator_cells c l = record { count = c; lowest = l }

unfoldable pub separator_cells_of : Separator → SeparatorCells
separator_cells_of s = separator_cells s.count (lowest_rank s.lowest)

unfoldable pub handed_cells : {X C A : Type 0} → (X → C) → C → Outcome X A → FilledCells C A
handed_cells hold was o = filled_cells (number o.verdict) (told hold o.verdict was) o.tables

-- the four cells of a report hold its totals; the cell of an addition or a join holds a rank, `moved_rank` where the forest moved; the two of a
-- separator how many it has and a rank, `lowest_rank` of its lowest
abbrev pub handed_totals : {A : Type 0} → TotalsCells → Outcome Totals A → FilledCells TotalsCells A
handed_totals was o = handed_cells cells_of was o

abbrev pub handed_rank : {A : Type 0} → ℕ → Outcome (Option ℕ) A → FilledCells ℕ A
handed_rank was o = handed_cells moved_rank was o

abbrev pub handed_separator : {A : Type 0} → SeparatorCells → Outcome Separator A → FilledCells SeparatorCells A
handed_separator was o = handed_cells separator_cells_of was o
