-- A first list: starting a net and adding a list of ties to it gives the net of the list. Neither call is refused, where the list has no
-- fault and the tables fit.
-- Assumes nothing.
use mathlib.Core.Path.{◌≡◌, sym, ap, ◌∙◌}
use mathlib.Core.List.{List, []}
use mathlib.Core.Bool.{false}
use Prim.Native.Nat.{ℕ, ◌+◌, ◌<◌}
use native.Mathlib.Omega.{arith}
use lib.ListN.{length}
use Rattle.std.specs.Prelude.{Option}
use Rattle.game.specs.Edge.{Tie, without_rows, ties, edges}
use Rattle.game.specs.Net.{Net, net, net_of, total}
use Rattle.game.proofs.Proper.{proper-nil}
use Rattle.game.proofs.Edges.{edges-ties}
use Rattle.game.proofs.Forest.{forest-length}
use Rattle.game.proofs.Weights.{weights-charges, charges-empty}
use Rattle.refusal.specs.Refusal.{not_whole, first_fault}
use Rattle.refusal.specs.Verdict.{Verdict}
use Rattle.refusal.specs.Outcome.{Outcome, ended, decided}
use Rattle.refusal.proofs.First.{unless-accepted}
use Rattle.refusal.proofs.Fault.{charges-most}
use Rattle.growth.specs.Lists.{ListFits}
use Rattle.growth.specs.Work.{Work, work_of, with_work, cleared}
use Rattle.start.specs.Start.{start_refusal, start_outcome}
use Rattle.add.specs.Add.{add_outcome}
use Rattle.add_refusal.proofs.Accepted.{Addable}
use Rattle.forest.proofs.Passes.{start-passes, add-passes}
use Rattle.forest.proofs.Promise.{valid-whole, net-valid}
use Rattle.forest.proofs.Laws.{grown-net}

-- a list that fits, of whole ties, for some vertices
pub record FirstList (xs : List ℕ) (lent : Net) (work : Work) : Type 0 where
  pub fits : ListFits xs lent work
  pub some : 0 < length lent.parents
  pub all : not_whole xs ≡ false

-- what an accepted call leaves
accepted-tables : {X A : Type 0} (k : ℕ) (values : X) (was new : A) {v : Verdict X} {t : A} → ended v t ≡ decided k values was new → k ≡ 0 → t ≡ new
unfolding decided
accepted-tables k values was new e z = ap (λ (o : Outcome _ _). o.tables) e ∙ unless-accepted k was new z

net-vertices : (n : ℕ) (ts : List Tie) → length (net_of n ts).parents ≡ n
unfolding net_of
net-vertices n ts = forest-length n (without_rows ts)

blank-total : (n : ℕ) → total (net_of n []) ≡ 0
unfolding net_of
blank-total n = weights-charges [] (proper-nil n) ∙ charges-empty

-- the tables of no edge take the list
blank-addable : {xs : List ℕ} {lent : Net} {work : Work} → FirstList xs lent work → Addable (with_work (net_of (length lent.parents) []) work) xs
blank-addable {xs} {lent} {work} c =
    let n = length lent.parents in
    let v = net-valid [] c.some c.fits.vertices (proper-nil n) (omega (arith, charges-empty)) in
    let vertices = net-vertices n [] in
    record {
      net = valid-whole v;
      work = record { ends = c.fits.ends ∙ sym vertices; jump = c.fits.jump ∙ sym vertices; lower = c.fits.lower ∙ ap (λ (m : ℕ). m + length (edges xs)) (sym vertices) };
      all = c.all;
      faultless = ap (λ (m : ℕ). first_fault m (ties xs)) vertices ∙ c.fits.faultless;
      few = c.fits.few;
      light = omega (arith, blank-total n, charges-most n (ties xs) c.fits.faultless, edges-ties xs, c.fits.few);
    }

-- starting, then adding
module _ {p w xs e j l : List ℕ} (c : FirstList xs (net p w) (work_of e j l)) where
  started : {m : Verdict (Unit {0})} {p' w' : List ℕ} → ended m (net p' w') ≡ start_outcome (net p w) → net p' w' ≡ net_of (length p) []
  unfolding start_outcome
  started o =
      accepted-tables (start_refusal (net p w)) tt (net p w) (net_of (length p) []) o (start-passes (record { some = c.some; few = c.fits.vertices; long = c.fits.weights }))

  pub first-net : {m : Verdict (Unit {0})} {m' : Verdict (Option ℕ)} {p' w' p'' w'' e'' j'' l'' : List ℕ} → ended m (net p' w') ≡ start_outcome (net p w)
      → ended m' (with_work (net p'' w'') (work_of e'' j'' l'')) ≡ add_outcome (with_work (net p' w') (work_of e j l)) xs
      → with_work (net p'' w'') (work_of e'' j'' l'') ≡ with_work (net_of (length p) (ties xs)) (cleared (work_of e j l))
  unfolding add_outcome
  first-net s a =
      accepted-tables _ _ _ _ (a ∙ ap (λ (of : Net). add_outcome (with_work of (work_of e j l)) xs) (started s)) (add-passes (blank-addable c))
      ∙ ap (λ (of : Net). with_work of (cleared (work_of e j l))) (grown-net [] (ties xs) (omega (arith, c.fits.vertices)) (proper-nil (length p)))
