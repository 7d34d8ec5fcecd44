-- What telling a net's own ties asks and promises. No public contract cites this.
-- Assumes nothing.
use Rattle.std.specs.Prelude.{◌≡◌, Bool, false, List, ℕ, ◌<◌, length}
use Rattle.game.specs.Edge.{Tie}
use Rattle.game.specs.Net.{Net, net_of}
use Rattle.refusal.specs.Refusal.{not_whole}
use Rattle.growth.specs.Work.{Work, cleared}
use Rattle.compare.specs.Likeness.{same_net}
use Rattle.compare.specs.Steps.{Comparable}

-- what telling a net's own ties asks: tables and a list that fit, of whole ties, for some vertices
pub record Tellable (of : Net) (xs : List ℕ) (lent : Net) (work : Work) : Type 0 where
  pub compares : Comparable of xs lent work
  pub some : 0 < length of.parents
  pub all : not_whole xs ≡ false

-- what it answers and leaves: whether the ties' net is the net, that net in the comparison tables, and cleared work tables
pub record Told (of : Net) (ts : List Tie) (was : Work) (same : Bool) (grown : Net) (work : Work) : Type 0 where
  pub answer : same ≡ same_net of (net_of (length of.parents) ts)
  pub net : grown ≡ net_of (length of.parents) ts
  pub clear : work ≡ cleared was
