-- How the code's tests say what the definition of the refusals asks, and what is known where none was given.
-- Assumes nothing.
use mathlib.Core.Path.{◌≡◌, sym, ap, ◌∙◌}
use mathlib.Core.Bool.{Bool, false}
use mathlib.Core.List.{List}
use Prim.Native.Nat.{ℕ, ◌≤◌, ◌<◌}
use lib.ListN.{length}
use Rattle.game.specs.Edge.{ties, edges}
use Rattle.game.specs.Net.{Net}
use Rattle.game.proofs.Bools.{or-neither}
use Rattle.refusal.specs.Limits.{max_edges}
use Rattle.refusal.specs.Refusal.{bad_count, not_whole, first_fault}
use Rattle.refusal.proofs.First.{first-none, given-none, good-count, length-right}
use Rattle.growth.specs.Work.{bad_work}
use Rattle.divide.specs.Divide.{wrong_tables, divide_refusal}
use Rattle.divide.proofs.Refused.{Sized, tables-not, refused-not}
use Rattle.compare.specs.Compare.{wrong_compared}
use Rattle.compare.specs.Steps.{Comparable}
use Rattle.refusal.proofs.ListRefusal.{list-passed}
use Rattle.compare.proofs.Ready.{ComparedLengths, compared-lengths, comparable}
use Rattle.report_refusal.specs.Refused.{report_early}
use Rattle.report_refusal.specs.Steps.{wrong_lengths}
use Rattle.report.specs.Report.{Lent, wrong_figures, wrong_lent}

-- what the code's test of the lengths, one by one, tells
module _ (of : Net) (k : ℕ) (xs : List ℕ) (was : Lent) {wrong : Bool}
    (told : wrong ≡ wrong_lengths k of.parents of.weights xs (length was.written.division.carried) (length was.written.division.top) (length was.written.division.block)
    (length was.written.division.block_loads) (length was.written.edge_blocks) (length was.written.reach) (length was.written.block_count) (length was.written.edges_taken)
    (length was.compared.parents) (length was.compared.weights) (length was.work.ends) (length was.work.jump) (length was.work.lower)) where
  pub lengths-told : wrong ≡ wrong_lent of k xs was
  unfolding wrong_lengths wrong_lent wrong_tables wrong_figures wrong_compared bad_work not_whole
  lengths-told = told

  pub early-told : (B : ℕ) → 0 ≡ report_early of B k xs wrong → report_early of B k xs (wrong_lent of k xs was) ≡ 0
  early-told B h = sym (h ∙ ap (report_early of B k xs) lengths-told)

-- the lengths where none is wrong
pub record Lengths (of : Net) (k : ℕ) (xs : List ℕ) (was : Lent) : Type 0 where
  pub division : wrong_tables of k was.written.division ≡ false
  pub sized : Sized of k was.written.division
  pub edge_blocks : length was.written.edge_blocks ≡ length (edges xs)
  pub reaches : length was.written.reach ≡ length of.parents
  pub counts : length was.written.block_count ≡ length of.parents
  pub taken : length was.written.edges_taken ≡ length of.parents
  pub compared : ComparedLengths (length of.parents) (length (edges xs)) was.compared was.work

pub lengths-right : (of : Net) (k : ℕ) (xs : List ℕ) (was : Lent) → wrong_lent of k xs was ≡ false → Lengths of k xs was
unfolding wrong_lent wrong_figures not_whole
lengths-right of k xs was e =
    let a = or-neither _ _ e in
    let b = or-neither _ _ a.0 in
    let c = or-neither _ _ b.0 in
    let f3 = or-neither _ _ c.1 in
    let f2 = or-neither _ _ f3.0 in
    let f1 = or-neither _ _ f2.0 in
    record {
      division = c.0;
      sized = tables-not of k was.written.division c.0;
      edge_blocks = length-right _ _ f1.0;
      reaches = length-right _ _ f1.1;
      counts = length-right _ _ f2.1;
      taken = length-right _ _ f3.1;
      compared = compared-lengths (length of.parents) (length (edges xs)) was.compared was.work b.1;
    }

-- what is known where nothing was refused before the comparison
pub record Ready (of : Net) (B k : ℕ) (xs : List ℕ) (was : Lent) : Type 0 where
  pub some : 0 < length of.parents
  pub lengths : Lengths of k xs was
  pub divides : divide_refusal of B k was.written.division ≡ 0
  pub compares : Comparable of xs was.compared was.work
  pub faultless : first_fault (length of.parents) (ties xs) ≡ 0
  pub few : length (edges xs) ≤ max_edges

pub ready : (of : Net) (B k : ℕ) (xs : List ℕ) (was : Lent) → report_early of B k xs (wrong_lent of k xs was) ≡ 0 → Ready of B k xs was
unfolding report_early
ready of B k xs was z =
    let a = first-none _ _ z in
    let b = first-none _ _ a.1 in
    let c = first-none _ _ b.1 in
    let d = first-none _ _ c.1 in
    let f = first-none _ _ d.1 in
    let h = first-none _ _ f.1 in
    let list = list-passed (length of.parents) xs f.0 in
    let count : bad_count (length of.parents) ≡ false = given-none _ 0 a.0 in
    let n = good-count (length of.parents) count in
    let l : Lengths of k xs was = lengths-right of k xs was (given-none _ 1 b.0) in
    record {
      some = n.0;
      lengths = l;
      divides = refused-not of B k was.written.division count l.division (given-none _ 7 c.0) (given-none _ 29 d.0) (given-none _ 21 h.0);
      faultless = list.0;
      few = list.1;
      compares = comparable of xs was.compared was.work n.1 l.sized.weights l.compared f.0;
    }
