-- What document 01 claims of every division that is accepted, by the tables that it leaves.
--
-- "Block loads sum to the total, and k × the largest is at most total + (k−1) × B." "The tables keep the final carried load. A group is
-- what remains connected; its top is its highest rank": it weighs what its top carries, and that fits the limit. A block's load is the
-- weight of its vertices.
-- Assumes nothing.
use Rattle.std.specs.Prelude.{◌≡◌, List, map, ℕ, ◌+◌, ◌-◌, ◌*◌, ◌≤◌, ◌<◌, eqb, length, get_or}
use Rattle.game.specs.Table.{tabulate, sum, filtered}
use Rattle.game.specs.Net.{Net, total}
use Rattle.pack.specs.Pack.{largest}
use Rattle.divide.specs.Divide.{DivisionTables}

-- what the vertices weigh together whose entry in a table is v
unfoldable pub weight_at : Net → (table : List ℕ) → (v : ℕ) → ℕ
weight_at of table v =
    sum (map (λ (x : ℕ). get_or of.weights x 0) (filtered (λ (x : ℕ). eqb (get_or table x 0) v) (tabulate (length of.parents) (λ (x : ℕ). x))))

pub record Division (of : Net) (B k : ℕ) (its : DivisionTables) : Type 0 where
  pub loads_sum : sum its.block_loads ≡ total of
  pub loads_even : k * largest its.block_loads ≤ total of + (k - 1) * B
  pub load : (j : ℕ) → j < k → get_or its.block_loads j 0 ≡ weight_at of its.block j
  -- the top of a group is its own top
  pub group : (t : ℕ) → t < length of.parents → get_or its.top t 0 ≡ t → weight_at of its.top t ≡ get_or its.carried t 0
  pub group_fits : (t : ℕ) → t < length of.parents → get_or its.carried t 0 ≤ B
