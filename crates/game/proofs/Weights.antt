-- Weights are the rows of ties, charged to the owners of their edges: they add up when lists are laid together, and in a proper graph
-- each tie is charged once.
-- Assumes nothing.
use mathlib.Core.Path.{◌≡◌, refl, sym, ap, ap₂, ◌∙◌}
use mathlib.Core.Logic.{◌≢◌, by_cases}
use mathlib.Core.Bool.{Bool, true, false, cond}
use mathlib.Core.List.{List, [], ◌∷◌, ◌++◌, map}
use Prim.Native.Nat.{ℕ, zero, suc, ◌+◌, ◌≤◌, ◌<◌}
use native.Mathlib.Nat.{ne_of_lt, add_assoc, zero-add}
use native.Mathlib.Decide.{ℕ_discrete}
use native.Mathlib.Omega.{arith}
use lib.Dec.{eqb}
use lib.ListN.{length, get_or, replicate}
use borrow.Author.Tests.{eq-eqb, ne_eqb}
use Rattle.game.specs.Table.{tabulate_from, tabulate, sum, one_if}
use Rattle.game.specs.Edge.{Edge, ◌─◌, Tie, without_rows}
use Rattle.game.specs.Graph.{Proper}
use Rattle.game.specs.Net.{owner, weight, weights, charges}
use Rattle.game.proofs.Tables.{tabulate-length, tabulate-entry, tabulate-const, sum-tabulate-add, sum_zeros}
use Rattle.game.proofs.Proper.{proper-head, proper-tail}

-- what a list sums to, laid together
pub sum-map-append : {A : Type 0} (f : A → ℕ) (es fs : List A) → sum (map f (es ++ fs)) ≡ sum (map f es) + sum (map f fs)
unfolding sum
sum-map-append f [] fs = sym (zero-add (sum (map f fs)))
sum-map-append f (e ∷ es) fs = ap (λ (k : ℕ). f e + k) (sum-map-append f es fs) ∙ sym (add_assoc (f e) (sum (map f es)) (sum (map f fs)))

-- c at k, 0 elsewhere
unfoldable pub charged : ℕ → ℕ → ℕ → ℕ
charged c k x = cond (eqb k x) c 0

pub charged-here : (c k x : ℕ) → k ≡ x → charged c k x ≡ c
unfolding charged
charged-here c k x e = rw (eq-eqb k x e)

pub charged-elsewhere : (c k x : ℕ) → k ≢ x → charged c k x ≡ 0
unfolding charged
charged-elsewhere c k x d = rw (ne_eqb k x d)

-- lists laid together: the weights add up
pub weight-append : (ts us : List Tie) (x : ℕ) → weight (ts ++ us) x ≡ weight ts x + weight us x
unfolding weight
weight-append ts us x = sum-map-append (λ (t : Tie). cond (eqb (owner t.edge) x) t.rows 0) ts us

pub charges-append : (ts us : List Tie) → charges (ts ++ us) ≡ charges ts + charges us
unfolding charges
charges-append ts us = sum-map-append (λ (t : Tie). t.rows) ts us

pub weight-cons : (t : Tie) (ts : List Tie) (x : ℕ) → weight (t ∷ ts) x ≡ charged t.rows (owner t.edge) x + weight ts x
unfolding weight charged
weight-cons t ts x = refl

one-charged : (b : Bool) → cond b 1 0 ≡ one_if b
unfolding one_if
one-charged true = refl
one-charged false = refl

-- a vertex is charged no more than all are
pub weight-le : (ts : List Tie) (x : ℕ) → weight ts x ≤ charges ts
unfolding weight charges
weight-le [] x = omega arith
weight-le (t ∷ ts) x = omega (arith, part (eqb (owner t.edge) x), weight-le ts x)
  where
    part : (b : Bool) → cond b t.rows 0 ≤ t.rows
    part true = omega arith
    part false = omega arith

-- a charge of 1 is a count
pub charged-one : (k x : ℕ) → charged 1 k x ≡ one_if (eqb k x)
unfolding charged
charged-one k x = one-charged (eqb k x)

-- no tie, no charge
pub charges-empty : charges [] ≡ 0
unfolding charges
charges-empty = refl

pub weights-length : (n : ℕ) (ts : List Tie) → length (weights n ts) ≡ n
unfolding weights
weights-length n ts = tabulate-length n (weight ts)

-- the entry of x is its weight
pub weights-entry : (n : ℕ) (ts : List Tie) {x : ℕ} → x < n → get_or (weights n ts) x 0 ≡ weight ts x
unfolding weights
weights-entry n ts {x} h = tabulate-entry n (weight ts) x 0 h

-- no edge, no weight
pub weights-empty : (n : ℕ) → weights n [] ≡ replicate n 0
unfolding weights weight
weights-empty n = tabulate-const n (weight []) 0 (λ i h. refl)

sum-charged-past : (c i n k : ℕ) → k < i → sum (tabulate_from i n (charged c k)) ≡ 0
unfolding tabulate_from sum
sum-charged-past c i zero k h = refl
sum-charged-past c i (suc n) k h = omega (arith, charged-elsewhere c k i (ne_of_lt h), sum-charged-past c (suc i) n k (omega arith))

sum-charged-from : (c i n k : ℕ) → i ≤ k → k < i + n → sum (tabulate_from i n (charged c k)) ≡ c
unfolding tabulate_from sum
sum-charged-from c i zero k h l = absurd (omega arith)
sum-charged-from c i (suc n) k h l =
    by_cases (ℕ_discrete k i)
    (λ (e : k ≡ i). omega (arith, charged-here c k i e, sum-charged-past c (suc i) n k (omega arith)))
    (λ (d : k ≢ i). omega (arith, charged-elsewhere c k i d, sum-charged-from c (suc i) n k (omega arith) (omega arith)))

pub sum-charged : (c n k : ℕ) → k < n → sum (tabulate n (charged c k)) ≡ c
unfolding tabulate
sum-charged c n k h = sum-charged-from c 0 n k (omega arith) (omega arith)

-- in a proper graph each tie is charged once
pub weights-charges : {n : ℕ} (ts : List Tie) → Proper n (without_rows ts) → sum (weights n ts) ≡ charges ts
unfolding weights weight charges owner charged
weights-charges {n} [] p = ap sum (weights-empty n) ∙ sum_zeros n
weights-charges {n} (t ∷ ts) p =
    sum-tabulate-add n (charged t.rows (owner t.edge)) (weight ts)
    ∙ ap₂ ◌+◌ (sum-charged t.rows n (owner t.edge) (owner-below t.edge p)) (weights-charges ts (proper-tail p))
  where
    owner-below : (e : Edge) {es : List Edge} → Proper n (e ∷ es) → owner e < n
    owner-below (a ─ b) q = let (ha, hb, d) = proper-head q in omega arith
