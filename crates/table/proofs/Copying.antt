-- A table that is written from the front with the entries of a list.
-- Assumes nothing.
use mathlib.Core.Path.{◌≡◌, refl, ap, ◌∙◌}
use mathlib.Core.List.{List, [], ◌∷◌, ◌++◌, append-nil}
use Prim.Native.Nat.{ℕ, zero, suc, ◌+◌, ◌≤◌, ◌<◌}
use native.Mathlib.Nat.{not-suc-le-zero, le_of_suc-le-suc}
use native.Mathlib.Numerals.{add-one}
use native.Mathlib.Omega.{arith}
use lib.ListN.{length, get_or, set, take, drop, length-set, drop_of_length-le}
use lib.Seq.{take_all}

copied-suc : (s t : List ℕ) (i : ℕ) → i < length s → i < length t → set (take i s ++ drop i t) i (get_or s i 0) ≡ take (suc i) s ++ drop (suc i) t
copied-suc [] t i h l = absurd (not-suc-le-zero h)
copied-suc (x ∷ s) [] i h l = absurd (not-suc-le-zero l)
copied-suc (x ∷ s) (y ∷ t) zero h l = refl
copied-suc (x ∷ s) (y ∷ t) (suc i) h l = ap (λ z. x ∷ z) (copied-suc s t i (le_of_suc-le-suc h) (le_of_suc-le-suc l))

-- the first i entries are those of s, the others as they were
pub record Copied (s was t : List ℕ) (i : ℕ) : Type 0 where
  pub below : i ≤ length was
  pub entries : length s ≡ length was
  pub same : length t ≡ length was
  pub parts : t ≡ take i s ++ drop i was

-- at first nothing is written
pub copied-first : {s was : List ℕ} → length s ≡ length was → Copied s was was 0
copied-first e = record { below = omega arith; entries = e; same = refl; parts = refl }

-- one entry more
pub copied-step : {s was t : List ℕ} {i v : ℕ} → Copied s was t i → i < length t → v ≡ get_or s i 0 → Copied s was (set t i v) (i + 1)
copied-step {s} {was} {t} {i} {v} c h e =
    let same = c.same in
    let entries = c.entries in
    record {
      below = omega arith;
      entries = c.entries;
      same = simp length-set c.same;
      parts = rw (c.parts, e, add-one) (copied-suc s was i (omega arith) (omega arith));
    }

-- at last the table is s
pub copied-last : {s was t : List ℕ} {i : ℕ} → Copied s was t i → length t ≤ i → t ≡ s
copied-last {s} {was} {t} {i} c h =
    let same = c.same in
    let entries = c.entries in
    let past : length was ≤ i = omega arith in
    c.parts ∙ rw (take_all i s (omega arith), drop_of_length-le was past) (append-nil s)
