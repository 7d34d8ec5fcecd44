-- Tables and nets that pass the test of sameness are one, and `==` decides it.
-- Assumes nothing.
use mathlib.Core.Path.{◌≡◌, refl, ap, ap₂}
use mathlib.Core.Bool.{Bool, true, ◌&&◌, false≢true}
use mathlib.Core.List.{List, [], ◌∷◌}
use Prim.Native.Nat.{ℕ}
use lib.Dec.{eqb}
use lib.Pointwise.{pointwise}
use borrow.Author.Tests.{eq-eqb, eqb-true}
use Rattle.game.specs.Net.{Net, net}
use Rattle.game.proofs.Bools.{and_both, both-and}
use Rattle.compare.specs.Likeness.{same_table, same_net}

pub same-table : (xs ys : List ℕ) → same_table xs ys ≡ true → xs ≡ ys
unfolding same_table
same-table [] [] e = refl
same-table [] (y ∷ ys) e = absurd (false≢true e)
same-table (x ∷ xs) [] e = absurd (false≢true e)
same-table (x ∷ xs) (y ∷ ys) e =
    let b = and_both (eqb x y) (same_table xs ys) e in
    ap₂ ◌∷◌ (eqb-true x y b.0) (same-table xs ys b.1)

pub table_same : (xs : List ℕ) → same_table xs xs ≡ true
unfolding same_table
table_same [] = refl
table_same (x ∷ xs) = both-and (eqb x x) (same_table xs xs) (eq-eqb x x refl) (table_same xs)

pub same-net : (one other : Net) → same_net one other ≡ true → one ≡ other
unfolding same_net
same-net one other e =
    let b = and_both (same_table one.parents other.parents) (same_table one.weights other.weights) e in
    ap₂ net (same-table one.parents other.parents b.0) (same-table one.weights other.weights b.1)

pub net-same : (one other : Net) → one ≡ other → same_net one other ≡ true
unfolding same_net
net-same one other e = rw e (both-and (same_table other.parents other.parents) (same_table other.weights other.weights) (table_same other.parents) (table_same other.weights))

-- slices compared by `==`
pub pointwise_same : (xs ys : List ℕ) → pointwise eqb xs ys ≡ same_table xs ys
unfolding same_table
pointwise_same [] [] = refl
pointwise_same [] (y ∷ ys) = refl
pointwise_same (x ∷ xs) [] = refl
pointwise_same (x ∷ xs) (y ∷ ys) = ap (λ (b : Bool). eqb x y && b) (pointwise_same xs ys)
