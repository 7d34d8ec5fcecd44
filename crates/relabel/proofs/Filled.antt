-- A table that is filled from the front with ties that are looked up.
-- Assumes nothing.
use mathlib.Core.Path.{◌≡◌, refl, sym, ap, ◌∙◌}
use mathlib.Core.List.{List, [], ◌∷◌, ◌++◌, append_assoc, append-nil}
use Prim.Native.Nat.{ℕ, suc, ◌+◌, ◌*◌, ◌%◌, ◌<◌}
use native.Mathlib.Numerals.{add-one, add-two}
use native.Mathlib.Omega.{arith}
use lib.ListN.{length, get_or, set, take, drop, length-set, length-append}
use lib.Seq.{sets-eq, take_at, take_all, length-take-le}
use Rattle.game.specs.Edge.{Edge, ◌─◌, Tie, tie_of, ties}
use Rattle.game.proofs.Edges.{edges-length, edges-ties}
use Rattle.refusal.specs.Refusal.{first_fault}
use Rattle.refusal.proofs.Fault.{faultless, faultless-cons}
use Rattle.relabel.specs.Steps.{looked_up, LookUp}

-- what is written for ties that are looked up
abbrev pub looked_edge : List ℕ → Edge → List ℕ → List ℕ
looked_edge table (a ─ b) rest = get_or table a 0 ∷ get_or table b 0 ∷ rest

abbrev pub looked_ties : List ℕ → List Tie → List ℕ
looked_ties table [] = []
looked_ties table (t ∷ ts) = looked_edge table t.edge (t.rows ∷ looked_ties table ts)

-- of whole ties that is the whole list
looked-whole : (table xs : List ℕ) → length xs % 3 ≡ 0 → looked_ties table (ties xs) ≡ looked_up table xs
unfolding looked_up ties
looked-whole table [] h = refl
looked-whole table (a ∷ []) h = absurd (omega arith)
looked-whole table (a ∷ b ∷ []) h = absurd (omega arith)
looked-whole table (a ∷ b ∷ r ∷ xs) h = ap (λ (ys : List ℕ). get_or table a 0 ∷ get_or table b 0 ∷ r ∷ ys) (looked-whole table xs (omega arith))

-- and there are as many numbers
pub looked-up-length : (table xs : List ℕ) → length (looked_up table xs) ≡ length xs
unfolding looked_up
looked-up-length table [] = refl
looked-up-length table (a ∷ []) = refl
looked-up-length table (a ∷ b ∷ []) = refl
looked-up-length table (a ∷ b ∷ r ∷ xs) = ap (λ (k : ℕ). suc (suc (suc k))) (looked-up-length table xs)

-- three numbers that are stored one behind the other
stored-three : (xs : List ℕ) (k u v w : ℕ) → k + 2 < length xs → take (k + 3) (set (set (set xs k u) (k + 1) v) (k + 2) w) ≡ take k xs ++ (u ∷ v ∷ w ∷ [])
stored-three xs k u v w h =
    let f : length (take k xs) ≡ k = length-take-le k xs (omega arith) in
    rw (add-one, add-two, sets-eq (u ∷ v ∷ w ∷ []) xs k (omega arith)) (take_at (take k xs ++ (u ∷ v ∷ w ∷ [])) (drop (k + 3) xs) (k + 3) (simp length-append (omega arith)))

-- where the loop stands at tie i: what is left makes the list whole, and has its ends in the table and its place
pub record Filled (table xs out : List ℕ) (i : ℕ) (left : List Tie) : Type 0 where
  pub sound : first_fault (length table) left ≡ 0
  pub size : length out ≡ 3 * i + 3 * length left
  pub same : take (3 * i) out ++ looked_ties table left ≡ looked_up table xs

pub filled_none : {table xs out : List ℕ} {left : List Tie} → LookUp table xs out → left ≡ ties xs → Filled table xs out 0 left
filled_none {table} {xs} l e =
    rw e
    (record {
      sound = l.faultless;
      size = omega (arith, l.room, l.all, edges-length xs, edges-ties xs);
      same = looked-whole table xs l.all;
    })

module _ {table xs out : List ℕ} {i : ℕ} {left : List Tie} (f : Filled table xs out i left) where
  module _ {a b rows : ℕ} {rest : List Tie} (e : left ≡ tie_of (a ─ b) rows ∷ rest) where
    tie-sound : ((a < length table) × (b < length table)) × (first_fault (length table) rest ≡ 0)
    tie-sound =
        let z = faultless-cons (length table) (tie_of (a ─ b) rows) rest (rw e at f.sound) in
        let k = faultless (length table) a b rows z.0 in
        ((k.0, k.1), z.1)

    pub filled-ends : (a < length table) × (b < length table)
    filled-ends = tie-sound.0

    filled-room : 3 * i + 2 < length out
    filled-room = omega (arith, f.size, ap length e)

    pub filled-turn : {u v : ℕ} {out' : List ℕ} → u ≡ get_or table a 0 → v ≡ get_or table b 0 → out' ≡ set (set (set out (3 * i) u) (3 * i + 1) v) (3 * i + 2) rows
        → Filled table xs out' (i + 1) rest
    filled-turn {u} {v} p q o =
        let next : 3 * (i + 1) ≡ 3 * i + 3 = omega arith in
        record {
          sound = tie-sound.1;
          size = rw o (simp length-set (omega (arith, f.size, ap length e)));
          same = rw (o, next, stored-three out (3 * i) u v rows filled-room, append_assoc, p, q) (rw e at f.same);
        }

  pub filled-end : left ≡ [] → out ≡ looked_up table xs
  filled-end e = sym (take_all (3 * i) out (omega (arith, f.size, ap length e))) ∙ sym (append-nil _) ∙ (rw e at f.same)
