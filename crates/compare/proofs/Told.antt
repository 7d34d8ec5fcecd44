-- Starting and adding grow the net of the edges, so that it can be compared.
-- Assumes nothing.
use mathlib.Core.Path.{◌≡◌, sym, ap, ◌∙◌}
use mathlib.Core.Bool.{Bool}
use mathlib.Core.List.{List}
use Prim.Native.Nat.{ℕ}
use native.Mathlib.Omega.{arith}
use lib.ListN.{length}
use Rattle.game.specs.Edge.{ties}
use Rattle.game.specs.Net.{net, net_of}
use Rattle.refusal.specs.Verdict.{Verdict}
use Rattle.refusal.specs.Outcome.{ended}
use Rattle.growth.specs.Work.{NetWithWork, with_work, work_of, cleared}
use Rattle.std.specs.Prelude.{Option}
use Rattle.start.specs.Start.{start_outcome}
use Rattle.add.specs.Add.{add_outcome}
use Rattle.forest.proofs.FirstList.{FirstList, first-net}
use Rattle.compare.specs.Likeness.{same_net}
use Rattle.compare.specs.OwnSteps.{Tellable, Told}

module _ {p w xs cp cw e j l : List ℕ} (t : Tellable (net p w) xs (net cp cw) (work_of e j l)) where
  first : FirstList xs (net cp cw) (work_of e j l)
  first = record { fits = t.compares.growable; some = omega (arith, t.some, t.compares.parents); all = t.all }

  module _ {m : Verdict (Unit {0})} {m' : Verdict (Option ℕ)} {p' w' p'' w'' e'' j'' l'' : List ℕ} (start : ended m (net p' w') ≡ start_outcome (net cp cw))
      (add : ended m' (with_work (net p'' w'') (work_of e'' j'' l'')) ≡ add_outcome (with_work (net p' w') (work_of e j l)) xs) where
    left : with_work (net p'' w'') (work_of e'' j'' l'') ≡ with_work (net_of (length p) (ties xs)) (cleared (work_of e j l))
    left = first-net first start add ∙ ap (λ (n : ℕ). with_work (net_of n (ties xs)) (cleared (work_of e j l))) (sym t.compares.parents)

    grown : net p'' w'' ≡ net_of (length p) (ties xs)
    grown = ap (λ (g : NetWithWork). g.net) left

    pub told : {r : Bool} → r ≡ same_net (net p w) (net p'' w'') → Told (net p w) (ties xs) (work_of e j l) r (net p'' w'') (work_of e'' j'' l'')
    told s = record { answer = s ∙ ap (same_net (net p w)) grown; net = grown; clear = ap (λ (g : NetWithWork). g.work) left }
