-- Laws of the faults of ties, and what a list without a fault is.
-- Assumes nothing.
use mathlib.Core.Path.{◌≡◌, refl, sym, ◌∙◌}
use mathlib.Core.Bool.{Bool, true, false, cond}
use mathlib.Core.List.{List, [], ◌∷◌, ◌++◌}
use Prim.Native.Nat.{ℕ, zero, suc, ◌*◌, ◌≤◌, ◌<◌}
use native.Mathlib.Omega.{arith}
use native.Mathlib.Decide.{ℕ_discrete, dec_le}
use mathlib.Core.Logic.{by_cases}
use borrow.Author.Tests.{le-leb, lt-leb, eq-eqb, ne_eqb}
use lib.ListN.{length, drop}
use Rattle.game.specs.Table.{filtered}
use Rattle.game.specs.Edge.{Edge, ◌─◌, Tie, tie_of, without_rows, ties, edges}
use Rattle.game.specs.Net.{charges}
use Rattle.game.specs.Graph.{Proper, turn_tie, SameTies, nil, keep, flip, swap, trans}
use Rattle.game.proofs.Proper.{proper-nil, proper-cons}
use Rattle.refusal.specs.Limits.{max_rows, outside}
use Rattle.refusal.specs.Refusal.{given, edge_fault, fault, first_fault}
use Rattle.refusal.proofs.DivisionLimits.{outside-within, outside-not}
use Rattle.refusal.proofs.First.{first-pass, first-stop, first-last, first-none, given-false, given-none}

-- of the edge of a tie, and of its rows
fault-edge : (n : ℕ) (t : Tie) → (edge_fault n t.edge ≡ 0 → ⊥) → fault n t ≡ edge_fault n t.edge
unfolding fault
fault-edge n t h = first-stop _ _ h

fault-rows : (n : ℕ) (t : Tie) → edge_fault n t.edge ≡ 0 → fault n t ≡ given (outside max_rows t.rows) 32
unfolding fault
fault-rows n t h = first-pass _ _ h ∙ first-last _

module _ (n a b rows : ℕ) where
  edge-left : n ≤ a → edge_fault n (a ─ b) ≡ 4
  unfolding edge_fault
  edge-left h = rw (le-leb n a h)

  edge-right : a < n → n ≤ b → edge_fault n (a ─ b) ≡ 4
  unfolding edge_fault
  edge-right ha h = rw (lt-leb n a ha, le-leb n b h)

  edge_same : a < n → b < n → a ≡ b → edge_fault n (a ─ b) ≡ 5
  unfolding edge_fault
  edge_same ha hb e = rw (lt-leb n a ha, lt-leb n b hb, eq-eqb a b e)

  edge_none : a < n → b < n → (a ≡ b → ⊥) → edge_fault n (a ─ b) ≡ 0
  unfolding edge_fault
  edge_none ha hb d = rw (lt-leb n a ha, lt-leb n b hb, ne_eqb a b d)

  pub fault-left : n ≤ a → fault n (tie_of (a ─ b) rows) ≡ 4
  fault-left h = fault-edge n (tie_of (a ─ b) rows) (λ z. omega (arith, edge-left h)) ∙ edge-left h

  pub fault-right : a < n → n ≤ b → fault n (tie_of (a ─ b) rows) ≡ 4
  fault-right ha h = fault-edge n (tie_of (a ─ b) rows) (λ z. omega (arith, edge-right ha h)) ∙ edge-right ha h

  pub fault-same : a < n → b < n → a ≡ b → fault n (tie_of (a ─ b) rows) ≡ 5
  fault-same ha hb e = fault-edge n (tie_of (a ─ b) rows) (λ z. omega (arith, edge_same ha hb e)) ∙ edge_same ha hb e

  pub fault-given : a < n → b < n → (a ≡ b → ⊥) → fault n (tie_of (a ─ b) rows) ≡ given (outside max_rows rows) 32
  fault-given ha hb d = fault-rows n (tie_of (a ─ b) rows) (edge_none ha hb d)

  pub fault-none : a < n → b < n → (a ≡ b → ⊥) → 1 ≤ rows → rows ≤ max_rows → fault n (tie_of (a ─ b) rows) ≡ 0
  fault-none ha hb d low high = fault-given ha hb d ∙ given-false _ 32 (outside-within max_rows rows low high)

  -- a tie without a fault joins two different vertices of the net, by 1 to 6 rows
  pub faultless : fault n (tie_of (a ─ b) rows) ≡ 0 → (a < n) × (b < n) × (a ≡ b → ⊥) × (1 ≤ rows) × (rows ≤ max_rows)
  faultless e =
      by_cases (dec_le n a) (λ h. absurd (omega (arith, fault-left h)))
      (λ (ha : n ≤ a → ⊥). by_cases (dec_le n b) (λ h. absurd (omega (arith, fault-right (omega arith) h)))
      (λ (hb : n ≤ b → ⊥). let d : a ≡ b → ⊥ = λ d. omega (arith, fault-same (omega arith) (omega arith) d) in
      let r = outside-not max_rows rows (given-none _ 31 (sym (fault-given (omega arith) (omega arith) d) ∙ e)) in
      (omega arith, omega arith, d, r.0, r.1)))

pub first-fault-here : (n : ℕ) (t : Tie) (ts : List Tie) → (fault n t ≡ 0 → ⊥) → first_fault n (t ∷ ts) ≡ fault n t
unfolding first_fault
first-fault-here n t ts h = first-stop (fault n t) (first_fault n ts ∷ []) h

pub first-fault-on : (n : ℕ) (t : Tie) (ts : List Tie) → fault n t ≡ 0 → first_fault n (t ∷ ts) ≡ first_fault n ts
unfolding first_fault
first-fault-on n t ts h = first-pass (fault n t) (first_fault n ts ∷ []) h ∙ first-last (first_fault n ts)

-- the first tie has no fault, and the others have none
pub faultless-cons : (n : ℕ) (t : Tie) (ts : List Tie) → first_fault n (t ∷ ts) ≡ 0 → (fault n t ≡ 0) × (first_fault n ts ≡ 0)
unfolding first_fault
faultless-cons n t ts h =
    let p = first-none (fault n t) (first_fault n ts ∷ []) h in
    (p.0, sym (first-last (first_fault n ts)) ∙ p.1)

-- Two lists, one behind the other: the first decides, if it has a fault,
pub fault-first : (n : ℕ) (ts us : List Tie) → (first_fault n ts ≡ 0 → ⊥) → first_fault n (ts ++ us) ≡ first_fault n ts
unfolding first_fault
fault-first n [] us h = absurd (h refl)
fault-first n (t ∷ ts) us h =
    by_cases (ℕ_discrete (fault n t) 0)
    (λ (z : fault n t ≡ 0).
    first-fault-on n t (ts ++ us) z ∙ fault-first n ts us (λ k. h (first-fault-on n t ts z ∙ k)) ∙ sym (first-fault-on n t ts z))
    (λ (d : fault n t ≡ 0 → ⊥). first-fault-here n t (ts ++ us) d ∙ sym (first-fault-here n t ts d))

-- else the second does
pub fault-second : (n : ℕ) (ts us : List Tie) → first_fault n ts ≡ 0 → first_fault n (ts ++ us) ≡ first_fault n us
unfolding first_fault
fault-second n [] us h = refl
fault-second n (t ∷ ts) us h =
    by_cases (ℕ_discrete (fault n t) 0)
    (λ (z : fault n t ≡ 0). first-fault-on n t (ts ++ us) z ∙ fault-second n ts us (sym (first-fault-on n t ts z) ∙ h))
    (λ (d : fault n t ≡ 0 → ⊥). absurd (d (sym (first-fault-here n t ts d) ∙ h)))

-- A scan of a list: what is left decides.
pub scan-stop : (n : ℕ) {left rest : List Tie} {t : Tie} → left ≡ t ∷ rest → (fault n t ≡ 0 → ⊥) → first_fault n left ≡ fault n t
scan-stop n q f = rw q (first-fault-here n _ _ f)

pub scan-on : (n : ℕ) {left rest : List Tie} {t : Tie} → left ≡ t ∷ rest → fault n t ≡ 0 → first_fault n rest ≡ first_fault n left
scan-on n q f = rw q (sym (first-fault-on n _ _ f))

pub scan-end : (n : ℕ) {left : List Tie} → left ≡ [] → first_fault n left ≡ 0
unfolding first_fault
scan-end n q = rw q

-- a list without a fault is a proper graph on n vertices
pub faultless-proper : (n : ℕ) (ts : List Tie) → first_fault n ts ≡ 0 → Proper n (without_rows ts)
unfolding first_fault
faultless-proper n [] z = proper-nil n
faultless-proper n (t ∷ ts) z = let f = faultless-cons n t ts z in cons t.edge t.rows f.0 (faultless-proper n ts f.1)
  where
    cons : (e : Edge) (rows : ℕ) {es : List Edge} → fault n (tie_of e rows) ≡ 0 → Proper n es → Proper n (e ∷ es)
    cons (a ─ b) rows f p = let k = faultless n a b rows f in proper-cons k.0 k.1 k.2 p

-- that of a flat list
pub list-proper : (n : ℕ) (xs : List ℕ) → first_fault n (ties xs) ≡ 0 → Proper n (edges xs)
unfolding edges
list-proper n xs z = faultless-proper n (ties xs) z

-- its ties are charged at most six rows each
pub charges-most : (n : ℕ) (ts : List Tie) → first_fault n ts ≡ 0 → charges ts ≤ max_rows * length ts
unfolding charges
charges-most n [] z = omega arith
charges-most n (t ∷ ts) z = let f = faultless-cons n t ts z in omega (arith, rows-most t.edge t.rows f.0, charges-most n ts f.1)
  where
    rows-most : (e : Edge) (rows : ℕ) → fault n (tie_of e rows) ≡ 0 → rows ≤ max_rows
    rows-most (a ─ b) rows f = (faultless n a b rows f).4

-- what is left of a list without a fault has none
pub drop-faultless : (n i : ℕ) (ts : List Tie) → first_fault n ts ≡ 0 → first_fault n (drop i ts) ≡ 0
drop-faultless n zero ts z = z
drop-faultless n (suc i) [] z = z
drop-faultless n (suc i) (t ∷ ts) z = drop-faultless n i ts (faultless-cons n t ts z).1

-- ties that are kept of a list without a fault have none
pub filtered-faultless : (n : ℕ) (test : Tie → Bool) (ts : List Tie) → first_fault n ts ≡ 0 → first_fault n (filtered test ts) ≡ 0
unfolding filtered
filtered-faultless n test [] z = z
filtered-faultless n test (t ∷ ts) z = let f = faultless-cons n t ts z in either (test t) f.0 (filtered-faultless n test ts f.1)
  where
    either : (b : Bool) → fault n t ≡ 0 → first_fault n (filtered test ts) ≡ 0 → first_fault n (cond b (t ∷ filtered test ts) (filtered test ts)) ≡ 0
    either true f g = first-fault-on n t (filtered test ts) f ∙ g
    either false f g = g

-- the same ties in another order have none either
pub same-faultless : (n : ℕ) {ts us : List Tie} → SameTies ts us → first_fault n ts ≡ 0 → first_fault n us ≡ 0
same-faultless n nil z = z
same-faultless n (keep {e = t} {es = ts} {fs = us} s) z =
    let f = faultless-cons n t ts z in
    first-fault-on n t us f.0 ∙ same-faultless n s f.1
same-faultless n (flip {e = t} {es = ts} {fs = us} s) z =
    let f = faultless-cons n t ts z in
    first-fault-on n (turn_tie t) us (turned t.edge t.rows f.0) ∙ same-faultless n s f.1
  where
    turned : (e : Edge) (rows : ℕ) → fault n (tie_of e rows) ≡ 0 → fault n (turn_tie (tie_of e rows)) ≡ 0
    turned (a ─ b) rows f = let k = faultless n a b rows f in fault-none n b a rows k.1 k.0 (λ (e : b ≡ a). k.2 (sym e)) k.3 k.4
same-faultless n (swap {e = t} {f = u} {es = ts}) z =
    let f = faultless-cons n t (u ∷ ts) z in
    let g = faultless-cons n u ts f.1 in
    first-fault-on n u (t ∷ ts) g.0 ∙ first-fault-on n t ts f.0 ∙ g.1
same-faultless n (trans s r) z = same-faultless n r (same-faultless n s z)
