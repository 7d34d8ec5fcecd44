-- What is not named by a refusal is accepted: the calls' tests all pass over tables that fit, a net without damage, ties without a
-- fault, not too many, and a total within the limit.
-- Assumes nothing.
use mathlib.Core.Path.{◌≡◌, ◌∙◌}
use mathlib.Core.Bool.{false}
use mathlib.Core.List.{List}
use Prim.Native.Nat.{ℕ, ◌+◌, ◌≤◌, ◌<◌}
use native.Mathlib.Omega.{arith}
use lib.ListN.{length}
use borrow.Author.Tests.{ne_eqb, le-ltb}
use Rattle.game.specs.Edge.{ties}
use Rattle.game.specs.Net.{Net, total, charges}
use Rattle.game.proofs.Sound.{true-sound}
use Rattle.refusal.specs.Limits.{max_vertices, max_total}
use Rattle.refusal.specs.Refusal.{bad_count}
use Rattle.refusal.proofs.First.{pass, first-pass, first-end, right-length}
use Rattle.refusal.proofs.ListRefusal.{list-passes}
use Rattle.net.specs.Damage.{damaged, damaged_by}
use Rattle.growth.specs.Work.{Work, NetWithWork, bad_work}
use Rattle.start.specs.Start.{start_refusal}
use Rattle.add_refusal.specs.Refused.{add_refusal}
use Rattle.join_refusal.specs.Refused.{join_refusal}
use Rattle.join_refusal.proofs.Accepted.{Joinable}
use Rattle.add_refusal.proofs.Accepted.{Addable}
use Rattle.start.proofs.Accepted.{Startable}
use Rattle.growth.proofs.Whole.{Whole, Room}

pub count-right : (n : ℕ) → 0 < n → n ≤ max_vertices → bad_count n ≡ false
unfolding bad_count
count-right n h l = rw (ne_eqb n 0 (λ (e : n ≡ 0). omega arith), le-ltb max_vertices n l)

pub work-right : {n m : ℕ} {w : Work} → Room n m w → bad_work n m w ≡ false
unfolding bad_work
work-right {n} {m} {w} r =
    rw (right-length (length w.ends) n r.ends, right-length (length w.jump) n r.jump, right-length (length w.lower) m r.lower)

pub whole-undamaged : {of : Net} → Whole of → damaged of ≡ false
unfolding damaged damaged_by
whole-undamaged {of} w = rw (true-sound w.sound, le-ltb max_total (total of) w.light)

pub start-passes : {of : Net} → Startable of → start_refusal of ≡ 0
unfolding start_refusal
start-passes s = pass 1 _ (count-right _ s.some s.few) ∙ pass 2 _ (right-length _ _ s.long) ∙ first-end

pub add-passes : {g : NetWithWork} {xs : List ℕ} → Addable g xs → add_refusal g xs ≡ 0
unfolding add_refusal
add-passes {g} {xs} a =
    pass 1 _ (count-right _ a.net.some a.net.few)
    ∙ pass 2 _ (right-length _ _ a.net.long)
    ∙ pass 2 _ a.all
    ∙ pass 2 _ (work-right a.work)
    ∙ pass 30 _ (whole-undamaged a.net)
    ∙ first-pass _ _ (list-passes _ xs a.faultless a.few)
    ∙ pass 20 _ (le-ltb max_total (total g.net + charges (ties xs)) a.light)
    ∙ first-end

pub join-passes : {g : NetWithWork} {other : Net} → Joinable g other → join_refusal g other ≡ 0
unfolding join_refusal
join-passes {g} {other} a =
    pass 1 _ (count-right _ a.net.some a.net.few)
    ∙ pass 1 _ (count-right _ a.second.some a.second.few)
    ∙ pass 2 _ (right-length _ _ a.net.long)
    ∙ pass 2 _ (right-length _ _ a.second.long)
    ∙ pass 2 _ (work-right a.work)
    ∙ pass 21 _ (right-length _ _ a.same)
    ∙ pass 30 _ (whole-undamaged a.net)
    ∙ pass 30 _ (whole-undamaged a.second)
    ∙ pass 20 _ (le-ltb max_total (total g.net + total other) a.light)
    ∙ first-end
