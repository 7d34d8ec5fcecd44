-- The net of a list of edges, grown into tables that held anything, and compared.
-- Assumes nothing.
use mathlib.Core.Path.{◌≡◌, sym, ap, ap₂, subst, ◌∙◌}
use mathlib.Core.Bool.{Bool, true, false, true≢false}
use mathlib.Core.List.{List}
use Prim.Native.Nat.{ℕ, ◌^◌, ◌≤◌, ◌<◌}
use native.Mathlib.Omega.{arith}
use lib.ListN.{length, replicate, length-replicate}
use Rattle.game.specs.Edge.{ties, edges}
use Rattle.game.specs.Game.{absent}
use Rattle.game.specs.Net.{net, net_of, weights}
use Rattle.refusal.specs.Refusal.{first_fault}
use Rattle.compare.specs.Likeness.{same_net}
use Rattle.bucket.specs.CountingSteps.{Sweepable, Sweeps}
use Rattle.bucket.specs.Ends.{tallied}
use Rattle.bucket.specs.Filed.{Filed}
use Rattle.bucket.specs.PlacingSteps.{upper_counts}
use Rattle.bucket.proofs.Charging.{weighed-zeros}
use Rattle.bucket.proofs.Sweeping.{zeros-sweepable}
use Rattle.bucket.proofs.Upper.{counts-length}
use Rattle.growth.specs.Work.{Work, work_of, cleared}
use Rattle.growth.specs.Growth.{Growable, Grown}
use Rattle.growth.proofs.NewParents.{links-blank}
use Rattle.growth.proofs.Regrown.{filed-growable, grown-filed}
use Rattle.growth.specs.Lists.{ListFits}
use Rattle.compare.specs.Steps.{GrowsNet, Comparable, Compared}

-- tables of a size that fits, blank, and the list swept and filed: a forest can be grown
module _ {xs p w e j l : List ℕ} (c : ListFits xs (net p w) (work_of e j l)) {zeros zeros' : List ℕ} (blank-ends : zeros ≡ replicate (length e) 0) (blank-weights : zeros' ≡ replicate (length w) 0) where
  same : zeros' ≡ replicate (length e) 0
  same = blank-weights ∙ ap (λ (n : ℕ). replicate n 0) (c.weights ∙ sym c.ends)

  pub net-sweepable : Sweepable xs zeros zeros'
  net-sweepable = zeros-sweepable (length e) c.few blank-ends same

  module _ {ends w' : List ℕ} {r : ℕ} (s : Sweeps xs zeros zeros' ends w' r) where
    none : r ≡ 0
    none = s.fault ∙ ap (λ (n : ℕ). first_fault n (ties xs)) (ap length blank-ends ∙ length-replicate (length e) 0 ∙ c.ends) ∙ c.faultless

    swept-ends : ends ≡ upper_counts (length e) (edges xs)
    swept-ends = s.counted none ∙ ap (tallied true (edges xs)) blank-ends

    swept-long : length ends ≡ length e
    swept-long = ap length swept-ends ∙ counts-length (length e) (edges xs)

    swept-weights : w' ≡ weights (length p) (ties xs)
    swept-weights = s.charges none ∙ weighed-zeros (length e) (ties xs) same ∙ ap (λ (n : ℕ). weights n (ties xs)) c.ends

    -- what filing asks
    pub net-fileable : (ends ≡ upper_counts (length ends) (edges xs)) × (first_fault (length ends) (ties xs) ≡ 0) × (length (edges xs) ≤ length l) × (length l < 2 ^ 32)
    net-fileable = (
      swept-ends ∙ ap (λ (n : ℕ). upper_counts n (edges xs)) (sym swept-long),
      ap (λ (n : ℕ). first_fault n (ties xs)) (swept-long ∙ c.ends) ∙ c.faultless,
      omega (arith, c.lower),
      omega (arith, c.lower, c.vertices, c.few),
    )

    module _ {p' e' l' : List ℕ} (blank : p' ≡ replicate (length p) absent) (f : Filed (length ends) (edges xs) e' l') where
      filed : Filed (length p) (edges xs) e' l'
      filed = subst (λ (n : ℕ). Filed n (edges xs) e' l') (swept-long ∙ c.ends) f

      pub net-growable : Growable e' l' p' j
      net-growable = filed-growable filed c.vertices (ap length blank ∙ length-replicate (length p) absent) c.jump

      -- and it is the net of the ties
      pub net-grown : {p'' j'' l'' : List ℕ} → Grown e' l' p' p'' → l'' ≡ l' → GrowsNet xs (net p w) (net p'' w') (work_of e' j'' l'')
      unfolding net_of edges
      net-grown g kept =
          record {
            is = ap₂ net (grown-filed filed (links-blank (edges xs) (blank ∙ ap (λ (n : ℕ). replicate n absent) (sym (ap length blank ∙ length-replicate (length p) absent)))) g) swept-weights;
            filed = subst (Filed (length p) (edges xs) e') (sym kept) filed;
          }

-- what comparing leaves, once the ties' net is grown
module _ {p w xs cp cw e j l : List ℕ} (c : Comparable (net p w) xs (net cp cw) (work_of e j l)) {cp' cw' e' j' l' : List ℕ}
    (g : GrowsNet xs (net cp cw) (net cp' cw') (work_of e' j' l')) where
  net-is : net cp' cw' ≡ net_of (length p) (ties xs)
  net-is = g.is ∙ ap (λ (n : ℕ). net_of n (ties xs)) (sym c.parents)

  answers : {r : Bool} → r ≡ same_net (net p w) (net cp' cw') → r ≡ same_net (net p w) (net_of (length p) (ties xs))
  answers s = s ∙ ap (same_net (net p w)) net-is

  -- the list is the net's own
  pub compared_same : {r : Bool} → r ≡ same_net (net p w) (net cp' cw') → r ≡ true → Compared (net p w) xs (work_of e j l) true (net cp' cw') (work_of e' j' l')
  compared_same s t =
      record {
        answer = sym t ∙ answers s;
        net = net-is;
        filed = λ q. subst (λ (n : ℕ). Filed n (edges xs) e' l') (sym c.parents) g.filed;
        clear = λ q. absurd (true≢false q);
      }

  -- or it is not, and the work tables are cleared
  pub compared-other : {r : Bool} {work : Work} → r ≡ same_net (net p w) (net cp' cw') → r ≡ false → work ≡ cleared (work_of e j l) → Compared (net p w) xs (work_of e j l) false (net cp' cw') work
  compared-other s t k =
      record {
        answer = sym t ∙ answers s;
        net = net-is;
        filed = λ q. absurd (true≢false (sym q));
        clear = λ q. k;
      }
