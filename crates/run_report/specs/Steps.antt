-- What the steps of a run promise each other. No public promise speaks of it.
-- Assumes nothing.
use Rattle.std.specs.Prelude.{◌≡◌, List, false, ℕ, ◌+◌, ◌≤◌, ◌<◌, ◌*◌, length}
use Rattle.game.specs.Edge.{Tie, ties, edges}
use Rattle.game.specs.Net.{Net, net_of}
use Rattle.refusal.specs.Refusal.{given, not_whole, first_fault}
use Rattle.order.specs.Order.{bad_order}
use Rattle.relabel.specs.Relabel.{relabelled}
use Rattle.refusal.specs.DivisionLimits.{bad_limits, too_heavy}
use Rattle.lines.specs.FieldSteps.{line_room}
use Rattle.lines.specs.LineSteps.{totals_room}
use Rattle.files.specs.Files.{vertex_capacity, edge_capacity}
use Rattle.run_report.specs.Text.{report_text, decided_text}

-- the room of the text
abbrev pub text_room : ℕ
text_room = line_room * vertex_capacity + totals_room

-- an order and a flat list of ties by vertex number that are not refused
pub record Runnable (o xs : List ℕ) : Type 0 where
  pub some : 0 < length o
  pub vertices : length o ≤ vertex_capacity
  pub few : length (edges xs) ≤ edge_capacity
  pub all : not_whole xs ≡ false
  pub good : bad_order o ≡ false
  pub faultless : first_fault (length o) (ties xs) ≡ 0

-- tables that growing takes: the ties by rank, and the net
pub record GrowRoom (o xs ranks : List ℕ) (lent : Net) : Type 0 where
  pub ranked : length ranks ≡ length xs
  pub parents : length lent.parents ≡ length o
  pub weights : length lent.weights ≡ length o

-- what growing leaves: the ties by rank, and their net
pub record RankedNet (o xs ranks : List ℕ) (grown : Net) : Type 0 where
  pub ranked : ranks ≡ relabelled o xs
  pub net : grown ≡ net_of (length o) (ties (relabelled o xs))

-- what reporting is given: the net of ties by rank, in as many vertices as the order has, and good limits
pub record Ready (o ranks : List ℕ) (B k : ℕ) (of : Net) : Type 0 where
  pub some : 0 < length o
  pub vertices : length o ≤ vertex_capacity
  pub few : length (edges ranks) ≤ edge_capacity
  pub all : not_whole ranks ≡ false
  pub faultless : first_fault (length o) (ties ranks) ≡ 0
  pub limits : bad_limits B k ≡ false
  pub own : of ≡ net_of (length o) (ties ranks)

-- what is printed of an order and the ties by rank, once the files are not refused: 22, or the report
unfoldable pub net_text : (order : List ℕ) → List Tie → (B k : ℕ) → List ℕ
net_text order ts B k = decided_text (given (too_heavy B (net_of (length order) ts).weights) 22) (report_text order ts B k)
