-- A viewer that rereads what each answer asks for sees every net as it is, after every list of calls.
-- Assumes nothing.
use mathlib.Core.Path.{◌≡◌, refl, ap, ◌∙◌}
use mathlib.Core.Bool.{cond}
use mathlib.Core.List.{List, [], ◌∷◌}
use Prim.Native.Nat.{ℕ, zero, suc}
use lib.ListN.{length}
use Rattle.std.specs.Prelude.{Option}
use Rattle.game.specs.Net.{Net}
use Rattle.refusal.specs.Refusal.{unless}
use Rattle.refusal.specs.Verdict.{accepted, judged, is_accepted}
use Rattle.refusal.specs.Outcome.{decided}
use Rattle.moved.specs.Followed.{reread, Followed}
use Rattle.growth.specs.Work.{NetWithWork, with_work}
use Rattle.start.specs.Start.{start_refusal, start_outcome}
use Rattle.add_refusal.specs.Refused.{add_refusal}
use Rattle.add.specs.Add.{add_outcome}
use Rattle.join_refusal.specs.Refused.{join_refusal}
use Rattle.join.specs.Join.{join_outcome}
use Rattle.read.specs.Read.{read_refusal, read_outcome}
use Rattle.forest.proofs.Followed.{add-followed, join-followed}
use Rattle.history.specs.World.{World, Call, start, add, join, save, read, relabel, divide, report, index, query, separate, update, step, stepped}
use Rattle.history.specs.History.{world_after}
use Rattle.history.specs.Viewer.{shown, look, seen_after}
use Rattle.history.proofs.Update.{update_here, update-both}

-- a whole table reread where the call was accepted: refused, it left the old one
reread-whole : {X : Type 0} (k : ℕ) (values : X) (was new : Net) {old : List ℕ} → old ≡ was.parents
    → cond (is_accepted (judged k values)) (unless k was new).parents old ≡ (unless k was new).parents
unfolding judged is_accepted unless
reread-whole zero values was new e = refl
reread-whole (suc k) values was new e = e

-- a table reread from where it moved
reread-moved : (k : ℕ) (m : Option ℕ) (was new : NetWithWork) {old : List ℕ} → old ≡ was.net.parents
    → ((n : Option ℕ) → judged k m ≡ accepted n → Followed n was.net.parents (unless k was new).net.parents)
    → shown (judged k m) old (unless k was new).net.parents ≡ (unless k was new).net.parents
unfolding judged shown unless
reread-moved zero m was new e f = ap (λ (old : List ℕ). reread m old new.net.parents) e ∙ (f m refl).whole
reread-moved (suc k) m was new e f = e

-- every call
module _ (w : World) (seen : ℕ → List ℕ) (sees : (i : ℕ) → seen i ≡ (w.nets i).parents) where
  -- a net is put in, and with it what is seen of it
  put : (i : ℕ) (x : List ℕ) (of : Net) → x ≡ of.parents → (k : ℕ) → update seen i x k ≡ (update w.nets i of k).parents
  put = update-both (λ (x : List ℕ) (of : Net). x ≡ of.parents) seen w.nets sees

  -- the table that a call left, as it is found in the world
  found : (i : ℕ) (of : Net) (P : List ℕ → List ℕ) → P of.parents ≡ of.parents → P (update w.nets i of i).parents ≡ of.parents
  found i of P e = ap (λ (t : Net). P t.parents) (update_here w.nets i of) ∙ e

  look-sees : (c : Call) (k : ℕ) → look w seen c k ≡ ((step w c).world.nets k).parents
  unfolding look step stepped decided start_outcome add_outcome join_outcome read_outcome
  look-sees (start i) = put i _ _ (found i _ (λ (new : List ℕ). cond (is_accepted (start_outcome (w.nets i)).verdict) new (seen i)) (reread-whole (start_refusal (w.nets i)) tt (w.nets i) _ (sees i)))
  look-sees (add i xs work) =
      let g = with_work (w.nets i) work in
      put i _ _ (found i _ (shown (add_outcome g xs).verdict (seen i)) (reread-moved (add_refusal g xs) _ g _ (sees i) (λ m. add-followed g xs)))
  look-sees (join i j different work) =
      let g = with_work (w.nets i) work in
      put i _ _ (found i _ (shown (join_outcome g (w.nets j)).verdict (seen i)) (reread-moved (join_refusal g (w.nets j)) _ g _ (sees i) (λ m. join-followed g (w.nets j))))
  look-sees (save i f) = sees
  look-sees (read i f) = put i _ _ (found i _ (λ (new : List ℕ). cond (is_accepted (read_outcome (w.nets i) (w.files f)).verdict) new (seen i)) (reread-whole (read_refusal (length (w.nets i).parents) (length (w.nets i).weights) (w.files f)) tt (w.nets i) _ (sees i)))
  look-sees (relabel order xs tables) = sees
  look-sees (divide i B k tables) = sees
  look-sees (report i B k xs tables) = sees
  look-sees (index old more tables) = sees
  look-sees (query tables rank) = sees
  look-sees (separate i a b xs tables) = sees

pub viewer : (w : World) (seen : ℕ → List ℕ) → ((i : ℕ) → seen i ≡ (w.nets i).parents) → (cs : List Call) (i : ℕ) → seen_after w seen cs i ≡ ((world_after w cs).nets i).parents
unfolding seen_after world_after
viewer w seen sees [] = sees
viewer w seen sees (c ∷ cs) = viewer (step w c).world (look w seen c) (look-sees w seen sees c) cs
