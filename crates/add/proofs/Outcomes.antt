-- What an accepted addition leaves is what its definition says, from what its steps promise.
-- Assumes nothing.
use mathlib.Core.Path.{◌≡◌, refl, ap, ap₂, ◌∙◌}
use mathlib.Core.List.{List, zip_with}
use Prim.Native.Nat.{ℕ, ◌+◌}
use native.Mathlib.Omega.{arith}
use lib.ListN.{length}
use Rattle.std.specs.Prelude.{Option}
use Rattle.game.specs.Edge.{ties, edges}
use Rattle.game.specs.Game.{forest}
use Rattle.game.specs.Net.{net, weights}
use Rattle.game.proofs.Edges.{edges-ties}
use Rattle.game.proofs.Sound.{true-sound}
use Rattle.game.proofs.Tables.{sum-entry}
use Rattle.game.proofs.Forest.{forest-length}
use Rattle.moved.specs.Moved.{moved_from, moved}
use Rattle.moved.specs.Steps.{moved_at, Differ}
use Rattle.moved.proofs.Differ.{differ-moved}
use Rattle.bucket.specs.Ends.{weighed}
use Rattle.growth.specs.Work.{with_work, work_of, cleared}
use Rattle.growth.proofs.Rooms.{same-room}
use Rattle.add.specs.Add.{grown}
use Rattle.rising.specs.Rising.{Takable}
use Rattle.insert.specs.Extending.{Extendable, Weighable, Extends}
use Rattle.insert.proofs.First.{first-links}
use Rattle.add.specs.Steps.{RisingFirst}
use Rattle.add_refusal.proofs.Accepted.{Addable}

module _ {p w e j l : List ℕ} {xs : List ℕ} (a : Addable (with_work (net p w) (work_of e j l)) xs) where
  -- the list can be taken in, whatever the tables of ends and jumps have come to hold
  pub add-extendable : {e' j' : List ℕ} → length e' ≡ length e → length j' ≡ length j → Extendable p xs e' j' l
  add-extendable same same' = record {
    table = record { few = a.net.few; sound = true-sound a.net.sound };
    faultless = a.faultless;
    long = same ∙ a.work.ends;
    long_jump = same' ∙ a.work.jump;
    room = omega (arith, a.work.lower);
    small = omega (arith, a.work.lower, a.net.few, a.few);
  }

  -- no weight overflows: an entry is at most the total
  pub add-weighable : Weighable p w xs
  add-weighable = record { long = a.net.long; light = λ v. omega (arith, sum-entry w v, a.light, a.few, edges-ties xs) }

  pub add-ends : {e'' j'' w' p' e' j' l' : List ℕ} → length e'' ≡ length e → length j'' ≡ length j → Extends p xs e'' j'' l p' e' j' l' × (w' ≡ weighed (ties xs) w) → with_work (net p' w') (work_of e' j' l') ≡ with_work (grown (net p w) (ties xs)) (cleared (work_of e j l))
  unfolding grown edges
  add-ends same same' (x, t) = ap₂ with_work
      (ap₂ net x.grown (t ∙ ap (λ (n : ℕ). zip_with ◌+◌ w (weights n (ties xs))) a.net.long))
      (x.clear ∙ same-room _ _ _ _ _ _ same same' refl)

  -- and what it answers is where the parents moved
  pub add-moved : {e'' j'' p' e' j' l' : List ℕ} {r : ℕ} {m : Option ℕ} → Extends p xs e'' j'' l p' e' j' l' → Differ p p' r → m ≡ moved_at r → m ≡ moved (net p w) (grown (net p w) (ties xs))
  unfolding moved grown edges
  add-moved x d is = is ∙ differ-moved (ap length x.grown ∙ forest-length _ _) (omega (arith, a.net.few)) d ∙ ap (moved_from 0 p) x.grown

  -- a first list that rises can be grown as it stands
  module _ (r : RisingFirst p xs) where
    pub rising-takable : Takable xs w p
    rising-takable = record { rises = r.rises; few = a.net.few; long = a.net.long; room = add-weighable.light }

    pub rising-extends : {p' e' j' l' : List ℕ} → p' ≡ forest (length p) (edges xs) → work_of e' j' l' ≡ cleared (work_of e j l) → Extends p xs e j l p' e' j' l'
    rising-extends g c = record { grown = g ∙ first-links (edges xs) r.blank refl; clear = c }
