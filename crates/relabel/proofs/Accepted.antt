-- What is known of the tables where no test of a call applies.
-- Assumes nothing.
use mathlib.Core.Path.{◌≡◌}
use mathlib.Core.Bool.{false}
use mathlib.Core.List.{List, []}
use Prim.Native.Nat.{ℕ, ◌%◌, ◌≤◌}
use lib.ListN.{length}
use Rattle.game.specs.Edge.{ties}
use Rattle.refusal.specs.Limits.{max_vertices}
use Rattle.refusal.specs.Refusal.{given, bad_count, wrong_length, not_whole, first_fault}
use Rattle.refusal.proofs.First.{first-none, given-none, length-right, list-whole, good-count}
use Rattle.order.specs.Order.{bad_order}
use Rattle.relabel.specs.Relabel.{relabel_refusal}

-- what an accepted call knows
pub record Acceptable (order xs : List ℕ) (out inverse : ℕ) : Type 0 where
  pub count : length order ≤ max_vertices
  pub all : length xs % 3 ≡ 0
  pub same : out ≡ length xs
  pub whole : inverse ≡ length order
  pub good : bad_order order ≡ false
  pub faultless : first_fault (length order) (ties xs) ≡ 0

pub relabel-known : (order xs : List ℕ) (out inverse : ℕ) → relabel_refusal order xs out inverse ≡ 0 → Acceptable order xs out inverse
unfolding relabel_refusal
relabel-known order xs out inverse e =
    let count = first-none (given (bad_count (length order)) 1) _ e in
    let all = first-none (given (not_whole xs) 2) _ count.1 in
    let whole-ties = list-whole xs (given-none (not_whole xs) 1 all.0) in
    let same = first-none (given (wrong_length out (length xs)) 2) _ all.1 in
    let whole = first-none (given (wrong_length inverse (length order)) 2) _ same.1 in
    let good = first-none (given (bad_order order) 3) _ whole.1 in
    let faultless = first-none (first_fault (length order) (ties xs)) [] good.1 in
    record {
      count = (good-count (length order) (given-none (bad_count (length order)) 0 count.0)).1;
      all = whole-ties;
      same = length-right out (length xs) (given-none (wrong_length out (length xs)) 1 same.0);
      whole = length-right inverse (length order) (given-none (wrong_length inverse (length order)) 1 whole.0);
      good = given-none (bad_order order) 2 good.0;
      faultless = faultless.0;
    }
