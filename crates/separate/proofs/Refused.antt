-- How the code's tests say what the definition of the refusals asks, and what is known where none was given by reading alone.
-- Assumes nothing.
use mathlib.Core.Path.{◌≡◌, refl}
use mathlib.Core.Bool.{Bool, false, not, ◌||◌}
use mathlib.Core.List.{List}
use Prim.Native.Nat.{ℕ, ◌+◌, ◌<◌}
use lib.Dec.{eqb, leb}
use lib.ListN.{length}
use borrow.Author.Tests.{leb-false}
use Rattle.game.specs.Edge.{ties, edges}
use Rattle.game.specs.Net.{Net, net, total}
use Rattle.game.proofs.Bools.{or-neither}
use Rattle.game.proofs.Sound.{true-sound}
use Rattle.refusal.specs.Refusal.{wrong_length, not_whole, first_fault}
use Rattle.refusal.proofs.First.{first-none, given-none, good-count, length-right}
use Rattle.net.specs.Damage.{damaged}
use Rattle.net.proofs.Scan.{undamaged}
use Rattle.growth.specs.Work.{work_of, bad_work}
use Rattle.compare.specs.Compare.{wrong_compared}
use Rattle.refusal.proofs.ListRefusal.{list-passed}
use Rattle.compare.proofs.Ready.{ComparedLengths, compared-lengths, comparable}
use Rattle.ancestry.specs.Steps.{Walkable}
use Rattle.compare.specs.OwnSteps.{Tellable}
use Rattle.separate.specs.Refused.{separate_early}
use Rattle.separate.specs.Separate.{SeparateTables, separate_tables, wrong_separate}

-- 2, by the lengths that the code compares and the edges that it has counted
pub wrong-lengths : (p w xs l cp cw e j lo : List ℕ) {m : ℕ} {o v : Bool} → m ≡ length (edges xs)
    → o ≡ (wrong_length (length cp) (length p) || wrong_length (length cw) (length p) || (wrong_length (length e) (length p) || wrong_length (length j) (length p) || wrong_length (length lo) (length p + m)))
    → v ≡ not_whole xs
    → (not (eqb (length w) (length p)) || not (eqb (length l) (length p)) || o || v) ≡ wrong_separate (net p w) xs (separate_tables l (net cp cw) (work_of e j lo))
unfolding wrong_separate wrong_compared bad_work wrong_length
wrong-lengths p w xs l cp cw e j lo k z q = rw (z, q, k) refl

-- the lengths where none is wrong
pub record Lengths (of : Net) (xs : List ℕ) (was : SeparateTables) : Type 0 where
  pub weights : length of.weights ≡ length of.parents
  pub listed : length was.listed ≡ length of.parents
  pub all : not_whole xs ≡ false
  pub compared : ComparedLengths (length of.parents) (length (edges xs)) was.compared was.work

pub lengths-right : (of : Net) (xs : List ℕ) (was : SeparateTables) → wrong_separate of xs was ≡ false → Lengths of xs was
unfolding wrong_separate
lengths-right of xs was e =
    let a = or-neither _ _ e in
    let b = or-neither _ _ a.0 in
    let c = or-neither _ _ b.0 in
    record {
      weights = length-right _ _ c.0;
      listed = length-right _ _ c.1;
      all = a.1;
      compared = compared-lengths (length of.parents) (length (edges xs)) was.compared was.work b.1;
    }

-- what is known where nothing was refused before the comparison
pub record Ready (of : Net) (a b : ℕ) (xs : List ℕ) (was : SeparateTables) : Type 0 where
  pub lengths : Lengths of xs was
  pub walkable : Walkable of.parents
  pub one : a < length of.parents
  pub other : b < length of.parents
  pub tells : Tellable of xs was.compared was.work
  pub faultless : first_fault (length of.parents) (ties xs) ≡ 0

pub ready : (of : Net) (a b : ℕ) (xs : List ℕ) (was : SeparateTables) → separate_early of a b xs (wrong_separate of xs was) ≡ 0 → Ready of a b xs was
unfolding separate_early damaged
ready of a b xs was z =
    let c1 = first-none _ _ z in
    let c2 = first-none _ _ c1.1 in
    let c30 = first-none _ _ c2.1 in
    let c4 = first-none _ _ c30.1 in
    let list = first-none _ _ c4.1 in
    let n = good-count (length of.parents) (given-none _ 0 c1.0) in
    let l : Lengths of xs was = lengths-right of xs was (given-none _ 1 c2.0) in
    let ranks = or-neither (leb (length of.parents) a) (leb (length of.parents) b) (given-none _ 3 c4.0) in
    record {
      lengths = l;
      walkable = record { known = true-sound (undamaged of.parents (total of) (given-none _ 29 c30.0)).0; few = n.1 };
      one = leb-false (length of.parents) a ranks.0;
      other = leb-false (length of.parents) b ranks.1;
      tells = record { compares = comparable of xs was.compared was.work n.1 l.weights l.compared list.0; some = n.0; all = l.all };
      faultless = (list-passed (length of.parents) xs list.0).0;
    }
