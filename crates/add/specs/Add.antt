-- "Add a tie list, as a whole or not at all." "Parents become those of the elimination game on the old links together with the new
-- ties .. Only ties raise loads in adding", by their rows (document 02, Paper 6). The old net is any sound table, whether it came from ties
-- or not. Adding answers where the forest moved (Paper 2).
-- Assumes nothing.
use mathlib.Core.List.{List, ◌++◌, zip_with}
use Rattle.std.specs.Prelude.{ℕ, ◌+◌, length, Option}
use Rattle.game.specs.Edge.{Tie, without_rows, ties}
use Rattle.game.specs.Game.{forest}
use Rattle.game.specs.Tree.{links}
use Rattle.game.specs.Net.{Net, weights}
use Rattle.refusal.specs.Outcome.{Outcome, decided}
use Rattle.moved.specs.Moved.{moved}
use Rattle.growth.specs.Work.{NetWithWork, cleared}
use Rattle.add_refusal.specs.Refused.{add_refusal}

-- a net with ties added
unfoldable pub grown : Net → List Tie → Net
grown net ts = record {
  parents = forest (length net.parents) (links net.parents ++ without_rows ts);
  weights = zip_with ◌+◌ net.weights (weights (length net.parents) ts);
}

unfoldable pub add_outcome : NetWithWork → List ℕ → Outcome (Option ℕ) NetWithWork
add_outcome g xs =
    let new : Net = grown g.net (ties xs) in
    decided (add_refusal g xs) (moved g.net new) g (record { net = new; work = cleared g.work })
