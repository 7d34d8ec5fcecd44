-- What is known of a list that is refused, and of one that is not.
-- Assumes nothing.
use mathlib.Core.Path.{◌≡◌, ◌∙◌}
use mathlib.Core.Bool.{true, false}
use mathlib.Core.List.{List}
use Prim.Native.Nat.{ℕ, ◌≤◌, ◌<◌}
use native.Mathlib.Omega.{arith}
use lib.Dec.{ltb}
use lib.ListN.{length}
use borrow.Author.Tests.{lt-ltb, le-ltb, ltb-false}
use Rattle.game.specs.Edge.{ties, edges}
use Rattle.game.proofs.Edges.{edges-ties}
use Rattle.refusal.specs.Limits.{max_edges}
use Rattle.refusal.specs.Refusal.{first_fault, list_refusal}
use Rattle.refusal.proofs.First.{pass, first-pass, first-end, first-none, given-none}

pub many-edges : (xs : List ℕ) {m : ℕ} → m ≡ length (edges xs) → max_edges < m → ltb max_edges (length (ties xs)) ≡ true
many-edges xs k h = lt-ltb max_edges (length (ties xs)) (omega (arith, edges-ties xs))

pub few-edges : (xs : List ℕ) {m : ℕ} → m ≡ length (edges xs) → m ≤ max_edges → ltb max_edges (length (ties xs)) ≡ false
few-edges xs k h = le-ltb max_edges (length (ties xs)) (omega (arith, edges-ties xs))

pub list-passed : (n : ℕ) (xs : List ℕ) → list_refusal n xs ≡ 0 → (first_fault n (ties xs) ≡ 0) × (length (edges xs) ≤ max_edges)
unfolding list_refusal
list-passed n xs z =
    let a = first-none _ _ z in
    let b = first-none _ _ a.1 in
    (a.0, omega (arith, edges-ties xs, ltb-false max_edges (length (ties xs)) (given-none _ 19 b.0)))

pub list-passes : (n : ℕ) (xs : List ℕ) → first_fault n (ties xs) ≡ 0 → length (edges xs) ≤ max_edges → list_refusal n xs ≡ 0
unfolding list_refusal
list-passes n xs f h = first-pass _ _ f ∙ pass 20 _ (le-ltb max_edges (length (ties xs)) (omega (arith, edges-ties xs))) ∙ first-end
