-- What the steps of comparing promise each other, and what comparing asks of its caller. No public promise speaks of it.
-- Assumes nothing.
use Rattle.std.specs.Prelude.{◌≡◌, Bool, true, false, List, ℕ, length}
use Rattle.game.specs.Edge.{ties, edges}
use Rattle.game.specs.Net.{Net, net_of}
use Rattle.compare.specs.Likeness.{same_net}
use Rattle.bucket.specs.Filed.{Filed}
use Rattle.growth.specs.Work.{Work, cleared}
use Rattle.growth.specs.Lists.{ListFits}

-- what growing the net of a list leaves: that net, and the edges, which stay filed
pub record GrowsNet (xs : List ℕ) (lent grown : Net) (work : Work) : Type 0 where
  pub is : grown ≡ net_of (length lent.parents) (ties xs)
  pub filed : Filed (length lent.parents) (edges xs) work.ends work.lower

-- what comparing is given: that, for a net of as many vertices
pub record Comparable (of : Net) (xs : List ℕ) (lent : Net) (work : Work) : Type 0 where
  pub growable : ListFits xs lent work
  pub parents : length of.parents ≡ length lent.parents
  pub weights : length of.weights ≡ length lent.parents

-- What it answers and leaves: whether the ties' net is the net, and the ties' net in the comparison tables. A list that is the net's own
-- stays filed for the next reader; else the work tables are cleared.
pub record Compared (of : Net) (xs : List ℕ) (was : Work) (same : Bool) (grown : Net) (work : Work) : Type 0 where
  pub answer : same ≡ same_net of (net_of (length of.parents) (ties xs))
  pub net : grown ≡ net_of (length of.parents) (ties xs)
  pub filed : same ≡ true → Filed (length of.parents) (edges xs) work.ends work.lower
  pub clear : same ≡ false → work ≡ cleared was
