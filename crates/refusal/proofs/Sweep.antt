-- A scan for any fault at all, which goes through the whole list: it finds none exactly if there is no first one.
-- Assumes nothing.
use mathlib.Core.Path.{◌≡◌, refl, ◌∙◌}
use mathlib.Core.Bool.{Bool, false, ◌||◌, cond, or_assoc, or-false}
use mathlib.Core.List.{List, [], ◌∷◌}
use Prim.Native.Nat.{ℕ}
use lib.Dec.{eqb, leb}
use Rattle.game.specs.Edge.{Edge, ◌─◌, Tie}
use Rattle.game.proofs.Bools.{or-neither}
use Rattle.refusal.specs.Refusal.{edge_fault, fault, first_fault}
use Rattle.refusal.specs.Steps.{is_faulty_edge, is_faulty, some_fault}
use Rattle.refusal.proofs.First.{first-pass, first-end, pass}
use Rattle.refusal.proofs.Fault.{first-fault-on}

no_number : (p q r : Bool) → (p || q || r) ≡ false → ◌≡◌ {A = ℕ} (cond (p || q) 4 (cond r 5 0)) 0
no_number p q r e =
    let k = or-neither (p || q) r e in
    rw (k.0, k.1)

faultless-edge : (n : ℕ) (e : Edge) → is_faulty_edge n e ≡ false → edge_fault n e ≡ 0
unfolding is_faulty_edge edge_fault
faultless-edge n (a ─ b) e = no_number (leb n a) (leb n b) (eqb a b) e

faultless-tie : (n : ℕ) (t : Tie) → is_faulty n t ≡ false → fault n t ≡ 0
unfolding is_faulty fault
faultless-tie n t e =
    let k = or-neither (is_faulty_edge n t.edge) _ e in
    first-pass _ _ (faultless-edge n t.edge k.0) ∙ pass 32 _ k.1 ∙ first-end

pub none_first : (n : ℕ) (ts : List Tie) → some_fault n ts ≡ false → first_fault n ts ≡ 0
unfolding some_fault first_fault
none_first n [] e = refl
none_first n (t ∷ ts) e =
    let k = or-neither (is_faulty n t) (some_fault n ts) e in
    first-fault-on n t ts (faultless-tie n t k.0) ∙ none_first n ts k.1

-- The scan of what is left: what it found so far and what is left decide.
pub sweep-on : (n : ℕ) (found : Bool) {here : Bool} {left rest : List Tie} {t : Tie} → left ≡ t ∷ rest → here ≡ is_faulty n t → (found || here || some_fault n rest) ≡ (found || some_fault n left)
unfolding some_fault
sweep-on n found q e = rw (e, q) (or_assoc found _ _)

pub sweep-end : (n : ℕ) (found : Bool) {left : List Tie} → left ≡ [] → (found || some_fault n left) ≡ found
unfolding some_fault
sweep-end n found q = rw q (or-false found)
