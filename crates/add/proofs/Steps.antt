-- How the list decides what adding is refused for, where the tables do not.
-- Assumes nothing.
use mathlib.Core.Path.{◌≡◌, sym, ap, ap₂, subst, ◌∙◌}
use mathlib.Core.Bool.{Bool, true}
use mathlib.Core.List.{List}
use Prim.Native.Nat.{ℕ}
use lib.ListN.{length}
use Rattle.game.specs.Edge.{ties, edges}
use Rattle.game.specs.Net.{weights}
use Rattle.bucket.specs.PlacingSteps.{upper_counts}
use Rattle.growth.specs.Work.{NetWithWork, with_work, work_of}
use Rattle.rising.proofs.Rising.{rises-faultless}
use Rattle.insert.specs.Extending.{Counted}
use Rattle.add_refusal.specs.Refused.{add_refusal}
use Rattle.add_refusal.specs.Steps.{add_list_refusal, LightList, ByList, ListRead}
use Rattle.add_refusal.proofs.Steps.{light-decides}
use Rattle.add.specs.Steps.{RisingFirst}

module _ {g : NetWithWork} {xs : List ℕ} {total : ℕ} {counted : Bool} {ends' jump' : List ℕ} {r : ℕ} (o : ByList g xs total) (l : ListRead xs total counted g.work.ends g.work.jump ends' jump' r) where
  -- what the list decides is what the call is refused for
  pub list-decides : r ≡ add_refusal g xs
  list-decides = l.refusal ∙ ap (λ (n : ℕ). add_list_refusal n xs total) o.ends ∙ sym o.refusal

  -- where that is something, the tables are as they were
  pub list-kept : (r ≡ 0 → ⊥) → with_work g.net (work_of ends' jump' g.work.lower) ≡ g
  list-kept h = ap₂ (λ (ends jump : List ℕ). with_work g.net (work_of ends jump g.work.lower)) (l.kept h).0 (l.kept h).1

  pub list_counted : r ≡ 0 → counted ≡ true → Counted g.net.parents xs ends' jump'
  list_counted z t =
      let k = l.counts t z in
      record { counts = k.0 ∙ ap (λ (n : ℕ). upper_counts n (edges xs)) o.ends; charged = k.1 ∙ ap (λ (n : ℕ). weights n (ties xs)) o.ends }

-- a list that rises has no fault, so that where it is light the call is not refused
pub rising-passes : {g : NetWithWork} {xs : List ℕ} {total m : ℕ} → ByList g xs total → m ≡ length (edges xs) → LightList total m → RisingFirst g.net.parents xs → add_refusal g xs ≡ 0
rising-passes {g} {xs} {total} o e light r = o.refusal ∙ light-decides (length g.net.parents) xs (subst (LightList total) e light) ∙ rises-faultless r.rises
