-- "Join a second net into a first; the second is unchanged." "Parents become those of the elimination game on the old links
-- together with .. the other net's links"; "joining sums the loads of equal ranks". Joining answers where the first net's forest moved
-- (document 02, Paper 2).
-- Assumes nothing.
use mathlib.Core.List.{◌++◌, zip_with}
use Rattle.std.specs.Prelude.{ℕ, ◌+◌, length, Option}
use Rattle.game.specs.Game.{forest}
use Rattle.game.specs.Tree.{links}
use Rattle.game.specs.Net.{Net}
use Rattle.refusal.specs.Outcome.{Outcome, decided}
use Rattle.moved.specs.Moved.{moved}
use Rattle.join_refusal.specs.Refused.{join_refusal}
use Rattle.growth.specs.Work.{NetWithWork, cleared}

-- two nets joined
unfoldable pub joined : Net → Net → Net
joined one other = record {
  parents = forest (length one.parents) (links one.parents ++ links other.parents);
  weights = zip_with ◌+◌ one.weights other.weights;
}

unfoldable pub join_outcome : NetWithWork → Net → Outcome (Option ℕ) NetWithWork
join_outcome g other =
    let new : Net = joined g.net other in
    decided (join_refusal g other) (moved g.net new) g (record { net = new; work = cleared g.work })
