-- How reading the tables and the list decides what adding is refused for.
-- Assumes nothing.
use mathlib.Core.Path.{◌≡◌, refl, sym, ◌∙◌}
use mathlib.Core.Logic.{by_cases}
use mathlib.Core.Bool.{Bool, true, false, true≢false}
use mathlib.Core.List.{List}
use Prim.Native.Nat.{ℕ, ◌+◌, ◌≤◌, ◌<◌}
use native.Mathlib.Decide.{ℕ_discrete}
use native.Mathlib.Omega.{arith}
use lib.Dec.{ltb}
use lib.ListN.{length}
use borrow.Author.Tests.{lt-ltb, le-ltb}
use Rattle.game.specs.Edge.{ties, edges}
use Rattle.game.specs.Net.{charges}
use Rattle.game.proofs.Edges.{edges-ties}
use Rattle.refusal.specs.Limits.{max_total}
use Rattle.refusal.specs.Refusal.{first_fault, list_refusal}
use Rattle.refusal.proofs.Fault.{charges-most}
use Rattle.refusal.proofs.First.{pass, first-pass, first-stop, first-end}
use Rattle.refusal.proofs.ListRefusal.{list-passed, list-passes}
use Rattle.bucket.specs.CountingSteps.{CountsList}
use Rattle.add_refusal.specs.Steps.{add_list_refusal, LightList, ListRead}

-- a list that passes its own tests is charged little
pub list-charges : (n : ℕ) (xs : List ℕ) → list_refusal n xs ≡ 0 → charges (ties xs) ≤ max_total
list-charges n xs z = let k = list-passed n xs z in omega (arith, charges-most n (ties xs) k.0, edges-ties xs, k.1)

-- whether it is too heavy, by the rows that the code has summed
module _ (total : ℕ) (xs : List ℕ) {rows : ℕ} (e : rows ≡ charges (ties xs)) where
  pub rows-many : max_total < total + rows → ltb max_total (total + charges (ties xs)) ≡ true
  rows-many h = lt-ltb max_total (total + charges (ties xs)) (omega (arith, e))

  pub rows_few : total + rows ≤ max_total → ltb max_total (total + charges (ties xs)) ≡ false
  rows_few h = le-ltb max_total (total + charges (ties xs)) (omega (arith, e))

-- of a light list the faults decide
pub light-decides : (n : ℕ) (xs : List ℕ) {total : ℕ} → LightList total (length (edges xs)) → add_list_refusal n xs total ≡ first_fault n (ties xs)
unfolding list_refusal
light-decides n xs {total} l =
    by_cases (ℕ_discrete (first_fault n (ties xs)) 0)
    (λ (z : first_fault n (ties xs) ≡ 0).
    first-pass _ _ (list-passes n xs z l.few)
    ∙ pass 20 _ (le-ltb max_total (total + charges (ties xs)) (omega (arith, charges-most n (ties xs) z, edges-ties xs, l.light)))
    ∙ first-end ∙ sym z)
    (λ (d : first_fault n (ties xs) ≡ 0 → ⊥). let s = first-stop (first_fault n (ties xs)) _ d in first-stop _ _ (λ e. d (sym s ∙ e)) ∙ s)

pub counted-read : {xs : List ℕ} {total : ℕ} {counted : Bool} {ends jump ends' jump' : List ℕ} {r : ℕ} → LightList total (length (edges xs)) → CountsList xs ends jump ends' jump' r → ListRead xs total counted ends jump ends' jump' r
counted-read {xs} {ends = ends} light c =
    record { refusal = c.fault ∙ sym (light-decides (length ends) xs light); counts = λ t z. (c.counted z, c.charges z); kept = c.kept }

-- one that is only read leaves the tables as they were
pub list_read : {xs : List ℕ} {total : ℕ} {counted : Bool} {ends jump : List ℕ} {r : ℕ} → counted ≡ false → r ≡ add_list_refusal (length ends) xs total → ListRead xs total counted ends jump ends jump r
list_read left e = record { refusal = e; counts = λ t z. absurd (true≢false (sym t ∙ left)); kept = λ h. (refl, refl) }
