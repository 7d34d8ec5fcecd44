-- A number that no test gives is never the answer.
-- Assumes nothing.
use mathlib.Core.Path.{◌≡◌}
use mathlib.Core.Bool.{Bool, true, false, ◌||◌, cond}
use mathlib.Core.List.{List, [], ◌∷◌}
use Prim.Native.Nat.{ℕ, zero, suc, ◌≤◌}
use native.Mathlib.Omega.{arith}
use lib.Dec.{eqb, leb}
use Rattle.game.specs.Edge.{Edge, ◌─◌, Tie, ties}
use Rattle.refusal.specs.Refusal.{given, first, edge_fault, fault, first_fault, list_refusal}
use Rattle.refusal.specs.Verdict.{refused, judged}

-- it is not found first where it is not given
pub first-not : (v k : ℕ) (ks : List ℕ) → (k ≡ suc v → ⊥) → (first ks ≡ suc v → ⊥) → first (k ∷ ks) ≡ suc v → ⊥
unfolding first
first-not v zero ks h r e = r e
first-not v (suc k) ks h r e = h e

pub end-not : (v : ℕ) → first [] ≡ suc v → ⊥
unfolding first
end-not v e = omega arith

-- a test gives its own number alone
given-not : (v : ℕ) (t : Bool) (k : ℕ) → (k ≡ suc v → ⊥) → given t k ≡ suc v → ⊥
unfolding given
given-not v true k h e = h e
given-not v false k h e = omega arith

pub other-not : (v : ℕ) (t : Bool) (k : ℕ) (ks : List ℕ) → (k ≡ suc v → ⊥) → (first ks ≡ suc v → ⊥) → first (given t k ∷ ks) ≡ suc v → ⊥
other-not v t k ks h r = first-not v (given t k) ks (given-not v t k h) r

-- and none where it fails
pub false-not : (v : ℕ) (t : Bool) (k : ℕ) (ks : List ℕ) → t ≡ false → (first ks ≡ suc v → ⊥) → first (given t k ∷ ks) ≡ suc v → ⊥
unfolding given
false-not v true k ks f r e = let z : ◌≡◌ {A = ℕ} 0 1 = cc in omega arith
false-not v false k ks f r e = first-not v 0 ks (λ z. omega arith) r e

edge-fault-small : (n : ℕ) (e : Edge) → edge_fault n e ≤ 5
unfolding edge_fault
edge-fault-small n (a ─ b) = go (leb n a || leb n b) (eqb a b)
  where
    go : (s t : Bool) → cond s 4 (cond t 5 0) ≤ 5
    go true t = omega arith
    go false true = omega arith
    go false false = omega arith

-- the faults of ties are 4, 5 and 32
fault-numbers : (v n : ℕ) (t : Tie) → 5 ≤ v → (32 ≡ suc v → ⊥) → fault n t ≡ suc v → ⊥
unfolding fault
fault-numbers v n t h d = first-not v (edge_fault n t.edge) _ (small t.edge) (other-not v _ 32 _ d (end-not v))
  where
    small : (e : Edge) → edge_fault n e ≡ suc v → ⊥
    small e q = omega (arith, q, edge-fault-small n e)

pub first-fault-not : (v n : ℕ) (ts : List Tie) → 5 ≤ v → (32 ≡ suc v → ⊥) → first_fault n ts ≡ suc v → ⊥
unfolding first_fault
first-fault-not v n [] h d e = omega arith
first-fault-not v n (t ∷ ts) h d e = first-not v (fault n t) _ (fault-numbers v n t h d) (first-not v (first_fault n ts) [] (first-fault-not v n ts h d) (end-not v)) e

pub fault-not : (v n : ℕ) (ts : List Tie) (ks : List ℕ) → 5 ≤ v → (32 ≡ suc v → ⊥) → (first ks ≡ suc v → ⊥) → first (first_fault n ts ∷ ks) ≡ suc v → ⊥
fault-not v n ts ks h d r = first-not v (first_fault n ts) ks (first-fault-not v n ts h d) r

-- a list is refused by 4, 5, 32 or 20, and by no other number
pub list-not : (v n : ℕ) (xs : List ℕ) → 5 ≤ v → (32 ≡ suc v → ⊥) → (20 ≡ suc v → ⊥) → list_refusal n xs ≡ suc v → ⊥
unfolding list_refusal
list-not v n xs h d t = fault-not v n (ties xs) _ h d (other-not v _ 20 _ t (end-not v))

-- a verdict's number is the one that decided it
pub judged-number : {X : Type 0} (k : ℕ) (values : X) (m : ℕ) → judged k values ≡ refused m → k ≡ m
unfolding judged
judged-number zero values m e = let z : ◌≡◌ {A = ℕ} 0 1 = cc in absurd (omega arith)
judged-number (suc k) values m e = cc

pub verdict-not : {X : Type 0} (k : ℕ) (values : X) (m : ℕ) → (k ≡ m → ⊥) → judged k values ≡ refused m → ⊥
verdict-not k values m h e = h (judged-number k values m e)
