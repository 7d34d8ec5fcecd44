-- What is known of the tables where joining is not refused.
-- Assumes nothing.
use mathlib.Core.Path.{◌≡◌}
use Prim.Native.Nat.{◌+◌, ◌≤◌}
use lib.ListN.{length}
use borrow.Author.Tests.{ltb-false}
use Rattle.game.specs.Net.{Net, total}
use Rattle.refusal.specs.Limits.{max_total}
use Rattle.refusal.proofs.First.{first-none, given-none, length-right}
use Rattle.growth.specs.Work.{NetWithWork}
use Rattle.join_refusal.specs.Refused.{join_refusal}
use Rattle.growth.proofs.Whole.{Whole, Room, whole, room}

pub record Joinable (g : NetWithWork) (other : Net) : Type 0 where
  pub net : Whole g.net
  pub second : Whole other
  pub same : length other.parents ≡ length g.net.parents
  pub work : Room (length g.net.parents) (length g.net.parents + length other.parents) g.work
  pub light : total g.net + total other ≤ max_total

pub joinable : (g : NetWithWork) (other : Net) → join_refusal g other ≡ 0 → Joinable g other
unfolding join_refusal
joinable g other z =
    let a = first-none _ _ z in
    let b = first-none _ _ a.1 in
    let c = first-none _ _ b.1 in
    let d = first-none _ _ c.1 in
    let e = first-none _ _ d.1 in
    let f = first-none _ _ e.1 in
    let h = first-none _ _ f.1 in
    let i = first-none _ _ h.1 in
    let j = first-none _ _ i.1 in
    record {
      net = whole g.net (given-none _ _ a.0) (given-none _ _ c.0) (given-none _ _ h.0);
      second = whole other (given-none _ _ b.0) (given-none _ _ d.0) (given-none _ _ i.0);
      same = length-right _ _ (given-none _ _ f.0);
      work = room _ _ g.work (given-none _ _ e.0);
      light = ltb-false _ _ (given-none _ _ j.0);
    }
