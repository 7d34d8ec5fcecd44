-- What reading the tables, and then the list, promises. No public contract cites this.
-- Assumes nothing.
use Rattle.std.specs.Prelude.{◌≡◌, Bool, true, List, [], ◌∷◌, ℕ, ◌+◌, ◌*◌, ◌≤◌, ltb, length, Result, Ok, Err}
use Rattle.game.specs.Edge.{ties, edges}
use Rattle.game.specs.Net.{charges, weights}
use Rattle.refusal.specs.Limits.{max_total, max_edges, max_rows}
use Rattle.refusal.specs.Refusal.{given, first, list_refusal}
use Rattle.refusal.specs.Numbers.{number_of}
use Rattle.refusal.specs.declared.kinds.Refusal.{Refusal}
use Rattle.bucket.specs.PlacingSteps.{upper_counts}
use Rattle.growth.specs.Work.{NetWithWork}
use Rattle.add_refusal.specs.Refused.{add_refusal}

-- the last tests of adding, which the list decides beside the net's total: its faults, its length, and whether it is too heavy
abbrev pub add_list_refusal : ℕ → List ℕ → ℕ → ℕ
add_list_refusal n xs total = first (list_refusal n xs ∷ given (ltb max_total (total + charges (ties xs))) 20 ∷ [])

-- a list of m ties cannot bring the total above the limit, whatever their rows
pub record LightList (total m : ℕ) : Type 0 where
  pub few : m ≤ max_edges
  pub light : total + max_rows * m ≤ max_total

-- the tables are right, so the list decides
pub record ByList (g : NetWithWork) (xs : List ℕ) (total : ℕ) : Type 0 where
  pub refusal : add_refusal g xs ≡ add_list_refusal (length g.net.parents) xs total
  pub ends : length g.work.ends ≡ length g.net.parents
  pub jump : length g.work.jump ≡ length g.net.parents
  pub small : total ≤ max_total

-- reading the tables refuses the call, or leaves it to the list
abbrev pub TablesRead : NetWithWork → List ℕ → Result ℕ Refusal → Type 0
TablesRead g xs (Err r) = number_of r ≡ add_refusal g xs
TablesRead g xs (Ok total) = ByList g xs total

-- what reading the list is given: a table of jumps as long as that of ends, a total within the limit, and a light list, if it is to be
-- counted
pub record ListReadable (xs : List ℕ) (total : ℕ) (counted : Bool) (ends jump : List ℕ) : Type 0 where
  pub same : length jump ≡ length ends
  pub small : total ≤ max_total
  pub light : counted ≡ true → LightList total (length (edges xs))

-- reading the list decides; where it is not refused and is to be counted, its edges are counted by upper end and its rows are charged
pub record ListRead (xs : List ℕ) (total : ℕ) (counted : Bool) (ends jump ends' jump' : List ℕ) (code : ℕ) : Type 0 where
  pub refusal : code ≡ add_list_refusal (length ends) xs total
  pub counts : counted ≡ true → code ≡ 0 → (ends' ≡ upper_counts (length ends) (edges xs)) × (jump' ≡ weights (length ends) (ties xs))
  pub kept : (code ≡ 0 → ⊥) → (ends' ≡ ends) × (jump' ≡ jump)
