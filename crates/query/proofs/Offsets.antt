-- Lists laid end to end, and the places where each of them starts.
-- Assumes nothing.
use mathlib.Core.Path.{◌≡◌, refl, ap, ◌∙◌}
use mathlib.Core.Bool.{true}
use mathlib.Core.List.{List, [], ◌∷◌, map, flatten}
use Prim.Native.Nat.{ℕ, zero, suc, ◌+◌, ◌-◌, ◌≤◌, ◌<◌}
use native.Mathlib.Omega.{arith}
use native.Mathlib.Numerals.{add-one}
use lib.Dec.{eqb, leb}
use lib.ListN.{length, get_or, take, drop, length-append}
use lib.Seq.{take-append_seam, drop-append-add}
use borrow.Author.Tests.{le-leb, eq-eqb}
use Rattle.game.specs.Table.{sum}
use Rattle.game.proofs.Bools.{both-and}
use Rattle.index.specs.Index.{offsets}
use Rattle.query.specs.Query.{rises_from, rises}

pub offsets-length : (k : ℕ) (sizes : List ℕ) → length (offsets k sizes) ≡ suc (length sizes)
unfolding offsets
offsets-length k [] = refl
offsets-length k (s ∷ sizes) = ap suc (offsets-length (k + s) sizes)

offsets-first : (k : ℕ) (sizes : List ℕ) → get_or (offsets k sizes) 0 0 ≡ k
unfolding offsets
offsets-first k [] = refl
offsets-first k (s ∷ sizes) = refl

offsets-from : (k : ℕ) (sizes : List ℕ) (i : ℕ) → i ≤ length sizes → k ≤ get_or (offsets k sizes) i 0
unfolding offsets
offsets-from k [] zero h = omega arith
offsets-from k [] (suc i) h = absurd (omega arith)
offsets-from k (s ∷ sizes) zero h = omega arith
offsets-from k (s ∷ sizes) (suc i) h = omega (arith, offsets-from (k + s) sizes i (omega arith))

-- the places rise from the first to the end of the last
from-rise : (j k : ℕ) (sizes : List ℕ) → j ≤ k → rises_from j (k + sum sizes) (offsets k sizes) ≡ true
unfolding offsets rises_from sum
from-rise j k [] h = both-and (leb j k) (eqb k (k + 0)) (le-leb j k h) (eq-eqb k (k + 0) (omega arith))
from-rise j k (s ∷ sizes) h =
    let e : k + s + sum sizes ≡ k + (s + sum sizes) = omega arith in
    both-and (leb j k) (rises_from k (k + (s + sum sizes)) (offsets (k + s) sizes)) (le-leb j k h) (rw e at (from-rise k (k + s) sizes (omega arith)))

pub offsets-rise : (sizes : List ℕ) → rises (sum sizes) (offsets 0 sizes) ≡ true
unfolding offsets rises_from rises sum
offsets-rise [] = refl
offsets-rise (s ∷ sizes) = let z : 0 + s ≡ s = omega arith in rw z (from-rise 0 s sizes (omega arith))

module _ {A : Type 0} where
  pub sizes-length : (xss : List (List A)) → length (map length xss) ≡ length xss
  sizes-length [] = refl
  sizes-length (xs ∷ xss) = ap suc (sizes-length xss)

  pub flatten-length : (xss : List (List A)) → length (flatten xss) ≡ sum (map length xss)
  unfolding flatten sum
  flatten-length [] = refl
  flatten-length (xs ∷ xss) = omega (arith, length-append xs (flatten xss), flatten-length xss)

  -- the part from where one list starts up to where the next does is that list
  from-part : (k : ℕ) (xss : List (List A)) (i : ℕ) → i < length xss
      → take (get_or (offsets k (map length xss)) (suc i) 0 - get_or (offsets k (map length xss)) i 0) (drop (get_or (offsets k (map length xss)) i 0 - k) (flatten xss)) ≡ get_or xss i []
  unfolding offsets flatten
  from-part k [] i h = absurd (omega arith)
  from-part k (xs ∷ xss) zero h =
      let f : get_or (offsets (k + length xs) (map length xss)) 0 0 - k ≡ length xs = omega (arith, offsets-first (k + length xs) (map length xss)) in
      let z : k - k ≡ 0 = omega arith in
      rw (f, z) (take-append_seam xs (flatten xss))
  from-part k (xs ∷ xss) (suc i) h =
      let o : List ℕ = offsets (k + length xs) (map length xss) in
      let l : k + length xs ≤ get_or o i 0 = offsets-from (k + length xs) (map length xss) i (omega (arith, sizes-length xss)) in
      let e : get_or o i 0 - k ≡ length xs + (get_or o i 0 - (k + length xs)) = omega arith in
      ap (λ (ys : List A). take (get_or o (suc i) 0 - get_or o i 0) ys) (rw e (drop-append-add xs (flatten xss) (get_or o i 0 - (k + length xs))))
      ∙ from-part (k + length xs) xss i (omega arith)

  pub offsets-part : (xss : List (List A)) (i : ℕ) → i < length xss
      → take (get_or (offsets 0 (map length xss)) (i + 1) 0 - get_or (offsets 0 (map length xss)) i 0) (drop (get_or (offsets 0 (map length xss)) i 0) (flatten xss)) ≡ get_or xss i []
  offsets-part xss i h =
      let z : get_or (offsets 0 (map length xss)) i 0 - 0 ≡ get_or (offsets 0 (map length xss)) i 0 = omega arith in
      rw add-one (rw z at (from-part 0 xss i h))
