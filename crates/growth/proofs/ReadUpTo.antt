-- Buckets that are read one after the other, and kept or cleared on the way.
-- Assumes nothing.
use mathlib.Core.Path.{◌≡◌, refl, sym, ap, ◌∙◌}
use mathlib.Core.Bool.{Bool, true, false, cond}
use mathlib.Core.List.{List, [], ◌∷◌, ◌++◌, append_assoc, append-nil}
use Prim.Native.Nat.{ℕ, suc, ◌+◌, ◌-◌, ◌≤◌, ◌<◌}
use native.Mathlib.Numerals.{add-one}
use native.Mathlib.Omega.{arith}
use lib.ListN.{length, get_or, set, take, drop, replicate, length-set, length-drop, length-append, length-replicate, replicate-append-replicate, take-append-drop, drop_of_length-le}
use lib.Seq.{length-take-le, take-suc, take_at, drop_at, set_at, take-add, take_all, drop-drop, drop-cons}
use Rattle.growth.specs.Growth.{left_of, ReadUpTo}

-- a part of a table, from one place to another
pub part_length : (from to : ℕ) (l : List ℕ) → to ≤ length l → length (take (to - from) (drop from l)) ≡ to - from
part_length from to l h = length-take-le (to - from) (drop from l) (simp length-drop (omega arith))

-- a table that is clear up to a place, with the rest of it cleared as a part that is put back
pub cleared-out : (l : List ℕ) (from : ℕ) {part : List ℕ} → from ≤ length l → take from l ≡ replicate from 0
    → part ≡ replicate (length (take (length l - from) (drop from l))) 0
    → take from l ++ (part ++ drop (length l - from) (drop from l)) ≡ replicate (length l) 0
cleared-out l from h e p =
    let whole : from + (length l - from) ≡ length l = omega arith in
    let none : drop (length l - from) (drop from l) ≡ [] = drop_of_length-le (drop from l) {i = length l - from} (simp length-drop (omega arith)) in
    rw (e, p, part_length from (length l) l (omega arith), none, append-nil, replicate-append-replicate {A = ℕ} from (length l - from) 0, whole)

left-length : (keep : Bool) (us : List ℕ) → length (left_of keep us) ≡ length us
unfolding left_of
left-length true us = refl
left-length false us = length-replicate (length us) 0

left-append : (keep : Bool) (us vs : List ℕ) → left_of keep (us ++ vs) ≡ left_of keep us ++ left_of keep vs
unfolding left_of
left-append true us vs = refl
left-append false us vs = rw length-append (sym (replicate-append-replicate (length us) (length vs) 0))

left-nil : (keep : Bool) → left_of keep [] ≡ []
unfolding left_of
left-nil true = refl
left-nil false = refl

left_one : (keep : Bool) (u : ℕ) → left_of keep (u ∷ []) ≡ cond keep u 0 ∷ []
unfolding left_of
left_one true u = refl
left_one false u = refl

-- where entries are cleared, lists of the same length leave the same
pub left-alike : {keep : Bool} (us vs : List ℕ) → keep ≡ false → length us ≡ length vs → left_of keep us ≡ left_of keep vs
unfolding left_of
left-alike us vs e l = rw e (ap (λ (n : ℕ). replicate n 0) l)

-- nothing is read yet
pub read-start : (keep : Bool) (was : List ℕ) → ReadUpTo keep was 0 was
read-start keep was = record { long = refl; inside = omega arith; same = rw (left-nil keep) refl }

-- a table that is read up to i: from there on it is as it was
module _ {keep : Bool} {was table : List ℕ} {i : ℕ} (f : ReadUpTo keep was i table) where
  front_length : length (left_of keep (take i was)) ≡ i
  front_length = left-length keep (take i was) ∙ length-take-le i was f.inside

  read-rest : drop i table ≡ drop i was
  read-rest = rw f.same (drop_at (left_of keep (take i was)) (drop i was) i front_length)

  pub read-front : take i table ≡ left_of keep (take i was)
  read-front = rw f.same (take_at (left_of keep (take i was)) (drop i was) i front_length)

  pub read-ahead : i < length table → get_or table i 0 ≡ get_or was i 0
  read-ahead h = cc (read-rest, drop-cons table i 0 h, drop-cons was i 0 (omega (arith, f.long)))

  pub read-part : (k : ℕ) → take k (drop i table) ≡ take k (drop i was)
  read-part k = rw read-rest

  -- one entry more
  pub read-turn : {u v : ℕ} → i < length table → u ≡ get_or was i 0 → v ≡ cond keep u 0 → ReadUpTo keep was (i + 1) (set table i v)
  read-turn {u} {v} h e q = record { long = length-set table i v ∙ f.long; inside = omega (arith, f.long); same = same }
    where
      inside : i < length was
      inside = omega (arith, f.long)

      same : set table i v ≡ left_of keep (take (i + 1) was) ++ drop (i + 1) was
      same =
          rw (f.same, drop-cons was i 0 inside, add-one i, take-suc was i 0 inside, left-append keep (take i was) (get_or was i 0 ∷ []), left_one keep (get_or was i 0), append_assoc)
          (set_at (left_of keep (take i was)) (get_or was i 0) (drop (suc i) was) v i front_length ∙ rw (q, e) refl)

  -- the next stretch of it, as a part that is put back
  pub read-on : (to : ℕ) {part : List ℕ} → i ≤ to → to ≤ length table → part ≡ left_of keep (take (to - i) (drop i table))
      → ReadUpTo keep was to (take i table ++ (part ++ drop (to - i) (drop i table)))
  read-on to {part} h l e = record { long = long; inside = omega (arith, f.long); same = same }
    where
      whole : i + (to - i) ≡ to
      whole = omega arith

      behind : drop (to - i) (drop i table) ≡ drop to was
      behind = ap (drop (to - i)) read-rest ∙ drop-drop (to - i) i was ∙ ap (λ (n : ℕ). drop n was) whole

      front : left_of keep (take i was) ++ left_of keep (take (to - i) (drop i was)) ≡ left_of keep (take to was)
      front = sym (left-append keep (take i was) (take (to - i) (drop i was))) ∙ ap (left_of keep) (sym (take-add i (to - i) was) ∙ ap (λ (n : ℕ). take n was) whole)

      same : take i table ++ (part ++ drop (to - i) (drop i table)) ≡ left_of keep (take to was) ++ drop to was
      same =
          rw (read-front, e, behind, read-part (to - i))
          (sym (append_assoc (left_of keep (take i was)) (left_of keep (take (to - i) (drop i was))) (drop to was)) ∙ ap (λ (r : List ℕ). r ++ drop to was) front)

      long : length (take i table ++ (part ++ drop (to - i) (drop i table))) ≡ length was
      long = rw (same, length-append, length-drop, left-length keep (take to was), length-take-le to was (omega (arith, f.long))) (omega (arith, f.long))

  -- the whole of it
  pub read-end : length table ≤ i → table ≡ left_of keep was
  read-end h =
      f.same ∙ rw (take_all i was (omega (arith, f.long)), drop_of_length-le was {i = i} (omega (arith, f.long)), append-nil) refl

-- a table whose entries are kept is as it was; one whose entries are not is clear
pub read_kept : {was table : List ℕ} {i : ℕ} → ReadUpTo true was i table → table ≡ was
unfolding left_of
read_kept {was} {table} {i} f = f.same ∙ take-append-drop i was

pub read-cleared : {was table : List ℕ} {i : ℕ} → ReadUpTo false was i table → take i table ≡ replicate i 0
unfolding left_of
read-cleared {was} {i = i} f = read-front f ∙ ap (λ (n : ℕ). replicate n 0) (length-take-le i was f.inside)
