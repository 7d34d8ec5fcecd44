-- A net and ties pass the test of sameness just where the net is theirs, and else they are refused with 23.
-- Assumes nothing.
use mathlib.Core.Path.{◌≡◌, refl, sym, ap, ◌∙◌}
use mathlib.Core.Bool.{Bool, true, false, not}
use mathlib.Core.List.{List}
use Prim.Native.Nat.{ℕ}
use lib.ListN.{length}
use borrow.Author.Tests.{not-false}
use Rattle.game.specs.Edge.{Tie, ties, edges}
use Rattle.game.specs.Game.{forest}
use Rattle.game.specs.Net.{Net, net_of}
use Rattle.refusal.specs.Refusal.{given}
use Rattle.refusal.proofs.First.{given-true, given-none}
use Rattle.compare.specs.Likeness.{same_net}
use Rattle.compare.proofs.Sameness.{same-net, net-same}
use Rattle.compare.specs.Compare.{unlike}

-- 23 is not given where the ties' net is the net
pub same-passes : (of : Net) (ts : List Tie) → of ≡ net_of (length of.parents) ts → unlike of ts ≡ 0
unfolding unlike given
same-passes of ts is = rw (net-same of (net_of (length of.parents) ts) is) refl

-- and only there
pub passed-same : (of : Net) (ts : List Tie) → unlike of ts ≡ 0 → of ≡ net_of (length of.parents) ts
unfolding unlike
passed-same of ts z =
    let grown : Net = net_of (length of.parents) ts in
    same-net of grown (not-false (same_net of grown) (given-none (not (same_net of grown)) 22 z))

-- the net's forest is then that of the edges
pub passed-forest : (of : Net) (xs : List ℕ) → unlike of (ties xs) ≡ 0 → of.parents ≡ forest (length of.parents) (edges xs)
unfolding net_of edges
passed-forest of xs z = ap (λ (net : Net). net.parents) (passed-same of (ties xs) z)

-- what a test that was made tells: the ties are the net's own, or they are refused
module _ (of : Net) (ts : List Tie) {same : Bool} (test : same ≡ same_net of (net_of (length of.parents) ts)) where
  pub found-own : same ≡ true → of ≡ net_of (length of.parents) ts
  found-own e = same-net of (net_of (length of.parents) ts) (sym test ∙ e)

  pub found-other : same ≡ false → unlike of ts ≡ 23
  unfolding unlike
  found-other e = given-true (not (same_net of (net_of (length of.parents) ts))) 23 (ap not (sym test ∙ e))
