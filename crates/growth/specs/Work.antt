-- Work tables. Growing a forest in near-linear time takes room of its own, which the caller lends. Document 01: "Every other lent
-- table must have exactly the length that its use below needs". A refused call leaves them as they were, an accepted one leaves
-- zeros.
-- Assumes nothing.
use Rattle.std.specs.Prelude.{Bool, ◌||◌, List, ℕ, length, replicate}
use Rattle.game.specs.Net.{Net}
use Rattle.refusal.specs.Refusal.{wrong_length}

pub record Work : Type 0 where
  pub ends : List ℕ
  pub jump : List ℕ
  pub lower : List ℕ

-- the tables that a call writes: its net and the work tables
pub record NetWithWork : Type 0 where
  pub net : Net
  pub work : Work

abbrev pub work_of : (ends jump lower : List ℕ) → Work
work_of ends jump lower = record { ends = ends; jump = jump; lower = lower }

abbrev pub with_work : Net → Work → NetWithWork
with_work net work = record { net = net; work = work }

-- refusal 2 of the work tables, for n vertices and m edges and links in all
unfoldable pub bad_work : ℕ → ℕ → Work → Bool
bad_work n m work = wrong_length (length work.ends) n || wrong_length (length work.jump) n || wrong_length (length work.lower) m

unfoldable pub zeros : List ℕ → List ℕ
zeros table = replicate (length table) 0

unfoldable pub cleared : Work → Work
cleared work = record { ends = zeros work.ends; jump = zeros work.jump; lower = zeros work.lower }
