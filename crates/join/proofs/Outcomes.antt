-- What an accepted join leaves is what its definition says, from what its steps promise.
-- Assumes nothing.
use mathlib.Core.Path.{◌≡◌, refl, ap, ap₂, ◌∙◌}
use mathlib.Core.List.{List, ◌++◌, zip_with}
use Prim.Native.Nat.{ℕ, ◌+◌}
use native.Mathlib.Omega.{arith}
use lib.ListN.{length}
use Rattle.std.specs.Prelude.{Option}
use Rattle.game.specs.Game.{forest}
use Rattle.game.specs.Tree.{links}
use Rattle.game.specs.Net.{net}
use Rattle.game.proofs.Forest.{forest-length}
use Rattle.moved.specs.Moved.{moved_from, moved}
use Rattle.moved.specs.Steps.{moved_at, Differ}
use Rattle.moved.proofs.Differ.{differ-moved}
use Rattle.bucket.specs.Filed.{Filed}
use Rattle.growth.specs.Work.{with_work, work_of, cleared}
use Rattle.join.specs.Join.{joined}
use Rattle.growth.specs.Growth.{Grows}
use Rattle.growth.proofs.NewParents.{links-in}
use Rattle.growth.proofs.Regrown.{grown-filed}
use Rattle.growth.proofs.Rooms.{same-room}
use Rattle.join_refusal.proofs.Accepted.{Joinable}

module _ {p w q v e j l : List ℕ} (a : Joinable (with_work (net p w) (work_of e j l)) (net q v)) where
  module _ {e' l' p'' e'' l'' j'' : List ℕ} (f : Filed (length p) (links p ++ links q) e' l') (r : Grows e' l' p j p'' e'' l'' j'') where
    join-parents : p'' ≡ forest (length p) (links p ++ links q)
    join-parents = grown-filed f (links-in a.net.sound (links q)) r.grown

    pub join-ends : {w' : List ℕ} → w' ≡ zip_with ◌+◌ w v → length e' ≡ length e → length l' ≡ length l → with_work (net p'' w') (work_of e'' j'' l'') ≡ with_work (joined (net p w) (net q v)) (cleared (work_of e j l))
    unfolding joined
    join-ends t s s' = ap₂ with_work (ap₂ net join-parents t) (r.clear ∙ same-room _ _ _ e j l s refl s')

    -- and what it answers is where the parents moved
    pub join-moved : {k : ℕ} {m : Option ℕ} → Differ p p'' k → m ≡ moved_at k → m ≡ moved (net p w) (joined (net p w) (net q v))
    unfolding moved joined
    join-moved d is = is ∙ differ-moved (ap length join-parents ∙ forest-length _ _) (omega (arith, a.net.few)) d ∙ ap (moved_from 0 p) join-parents
