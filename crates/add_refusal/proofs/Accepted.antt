-- What is known of the tables where adding is not refused.
-- Assumes nothing.
use mathlib.Core.Path.{◌≡◌}
use mathlib.Core.Bool.{false}
use mathlib.Core.List.{List}
use Prim.Native.Nat.{ℕ, ◌+◌, ◌≤◌}
use lib.ListN.{length}
use borrow.Author.Tests.{ltb-false}
use Rattle.game.specs.Edge.{ties, edges}
use Rattle.game.specs.Net.{total, charges}
use Rattle.refusal.specs.Limits.{max_total, max_edges}
use Rattle.refusal.specs.Refusal.{first_fault, not_whole}
use Rattle.refusal.proofs.First.{first-none, given-none}
use Rattle.refusal.proofs.ListRefusal.{list-passed}
use Rattle.growth.specs.Work.{NetWithWork}
use Rattle.add_refusal.specs.Refused.{add_refusal}
use Rattle.growth.proofs.Whole.{Whole, Room, whole, room}

pub record Addable (g : NetWithWork) (xs : List ℕ) : Type 0 where
  pub net : Whole g.net
  pub work : Room (length g.net.parents) (length g.net.parents + length (edges xs)) g.work
  pub all : not_whole xs ≡ false
  pub faultless : first_fault (length g.net.parents) (ties xs) ≡ 0
  pub few : length (edges xs) ≤ max_edges
  pub light : total g.net + charges (ties xs) ≤ max_total

pub addable : (g : NetWithWork) (xs : List ℕ) → add_refusal g xs ≡ 0 → Addable g xs
unfolding add_refusal
addable g xs z =
    let a = first-none _ _ z in
    let b = first-none _ _ a.1 in
    let c = first-none _ _ b.1 in
    let d = first-none _ _ c.1 in
    let e = first-none _ _ d.1 in
    let f = first-none _ _ e.1 in
    let h = first-none _ _ f.1 in
    record {
      net = whole g.net (given-none _ _ a.0) (given-none _ _ b.0) (given-none _ _ e.0);
      work = room _ _ g.work (given-none _ _ d.0);
      all = given-none _ _ c.0;
      faultless = (list-passed _ xs f.0).0;
      few = (list-passed _ xs f.0).1;
      light = ltb-false _ _ (given-none _ _ h.0);
    }
