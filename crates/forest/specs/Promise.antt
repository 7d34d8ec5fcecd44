-- What this crate promises of every net that its calls leave, and all that dividing sees of it. Document 01: "The cutting rests only on
-- the parent and load of each mark"; its number 30 is "the table of a net that the call works from .. breaks the rule of 7, or its loads
-- sum above 16,000,000", which Paper 6 of document 02 makes 96,000,000. The promise is on parents and weights: a net that has it is refused
-- with 30 by no call.
-- Assumes nothing.
use Rattle.std.specs.Prelude.{◌≡◌, true, ◌≤◌, ◌<◌, length}
use Rattle.game.specs.Tree.{sound as is_sound}
use Rattle.game.specs.Net.{Net, total}
use Rattle.refusal.specs.Limits.{max_vertices, max_total}

-- a net that is valid: tables of one length within the limits, each parent absent or above its vertex, and a total within the limit
pub record Valid (of : Net) : Type 0 where
  pub some : 0 < length of.parents
  pub few : length of.parents ≤ max_vertices
  pub sized : length of.weights ≡ length of.parents
  pub sound : is_sound of.parents ≡ true
  pub light : total of ≤ max_total
