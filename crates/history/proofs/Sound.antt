-- After an accepted start, add, join or read no call refuses the net with 30.
-- Assumes nothing.
use mathlib.Core.Path.{◌≡◌, refl, sym, subst}
use mathlib.Core.Bool.{true, false≢true}
use mathlib.Core.Option.{none, some}
use Prim.Native.Nat.{ℕ}
use native.Mathlib.Omega.{arith}
use Rattle.game.specs.Net.{Net}
use Rattle.refusal.specs.Verdict.{Verdict, accepted, refused, is_accepted}
use Rattle.growth.specs.Work.{with_work}
use Rattle.forest.specs.Promise.{Valid}
use Rattle.forest.proofs.Promise.{start-valid, add-valid, join-valid, add-not-30, join-not-30}
use Rattle.linkfile.proofs.RoundTrip.{read-valid, save-not-30}
use Rattle.divide.proofs.Division.{divide-not-30}
use Rattle.report.proofs.Own.{report-not-30}
use Rattle.separate.proofs.Own.{separate-not-30}
use Rattle.history.specs.World.{World, Call, start, add, join, save, read, relabel, divide, report, index, query, separate, update, step, stepped}
use Rattle.history.specs.Sound.{net_written, Never30}
use Rattle.history.proofs.Update.{update_here}

pub valid-never-30 : {of : Net} → Valid of → Never30 of
valid-never-30 {of} v = record {
  valid = v;
  add = λ work xs. add-not-30 (with_work of work) xs v;
  join = λ work other u. join-not-30 (with_work of work) other v u;
  joined = λ g u. join-not-30 g of u v;
  save = λ bytes. save-not-30 of bytes v;
  divide = λ B k tables. divide-not-30 of B k tables v;
  report = λ B k xs tables. report-not-30 of B k xs tables v;
  separate = λ a b xs tables. separate-not-30 of a b xs tables v;
}

-- a verdict that is accepted
said : {X : Type 0} (v : Verdict X) → is_accepted v ≡ true → ((values : X) × (v ≡ accepted values))
unfolding is_accepted
said (accepted values) e = (values, refl)
said (refused k) e = absurd (false≢true e)

-- the net that was put in
put : (nets : ℕ → Net) (i j : ℕ) (of : Net) → some i ≡ some j → Valid of → Valid (update nets i of j)
put nets i j of e v = let same : i ≡ j = cc in subst (λ (k : ℕ). Valid (update nets i of k)) same (subst Valid (sym (update_here nets i of)) v)

nothing : {j : ℕ} → none ≡ some j → ⊥
nothing e = let z : ◌≡◌ {A = ℕ} 0 1 = cc in omega arith

written-valid : (w : World) (c : Call) (j : ℕ) → net_written c ≡ some j → (step w c).accepted ≡ true → Valid ((step w c).world.nets j)
unfolding net_written step stepped
written-valid w (start i) j e a = put w.nets i j _ e (start-valid (w.nets i) (said _ a).1)
written-valid w (add i xs work) j e a = put w.nets i j _ e (add-valid (with_work (w.nets i) work) xs (said _ a).1)
written-valid w (join i k different work) j e a = put w.nets i j _ e (join-valid (with_work (w.nets i) work) (w.nets k) (said _ a).1)
written-valid w (save i f) j e a = absurd (nothing e)
written-valid w (read i f) j e a = put w.nets i j _ e (read-valid (w.nets i) (w.files f) (said _ a).1)
written-valid w (relabel order xs tables) j e a = absurd (nothing e)
written-valid w (divide i B k tables) j e a = absurd (nothing e)
written-valid w (report i B k xs tables) j e a = absurd (nothing e)
written-valid w (index old more tables) j e a = absurd (nothing e)
written-valid w (query tables rank) j e a = absurd (nothing e)
written-valid w (separate i x y xs tables) j e a = absurd (nothing e)

pub accepted-never-30 : (w : World) (c : Call) (i : ℕ) → net_written c ≡ some i → (step w c).accepted ≡ true → Never30 ((step w c).world.nets i)
accepted-never-30 w c i e a = valid-never-30 (written-valid w c i e a)
