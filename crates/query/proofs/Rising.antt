-- Starts that rise: how a scan finds it out, and what it says of each run.
-- Assumes nothing.
use mathlib.Core.Path.{◌≡◌, refl, sym, ap, ◌∙◌}
use mathlib.Core.Logic.{by_cases}
use mathlib.Core.Bool.{Bool, true, false, not, ◌&&◌, ◌||◌}
use mathlib.Core.List.{List, [], ◌∷◌}
use Prim.Native.Nat.{ℕ, zero, suc, ◌+◌, ◌≤◌, ◌<◌}
use native.Mathlib.Decide.{dec_lt}
use native.Mathlib.Numerals.{add-one}
use native.Mathlib.Omega.{arith}
use lib.Dec.{eqb, leb, ltb}
use lib.ListN.{length, get_or, drop, drop_of_length-le}
use lib.Seq.{drop-cons}
use borrow.Author.Tests.{lt-ltb, le-ltb, le-leb, lt-leb, eqb-true, leb-true}
use Rattle.game.proofs.Bools.{and_both}
use Rattle.query.specs.Query.{rises_from, rises}

-- the scan at i: what is left, with no fall so far, decides
pub record Scanning (end : ℕ) (starts : List ℕ) (i : ℕ) (falls : Bool) : Type 0 where
  pub inside : i < length starts
  pub same : (not falls && rises_from (get_or starts i 0) end (drop (i + 1) starts)) ≡ rises_from (get_or starts 0 0) end (drop 1 starts)

pub scan-start : (end : ℕ) (starts : List ℕ) → 0 < length starts → Scanning end starts 0 false
scan-start end starts h = record { inside = h; same = refl }

-- one more: it falls, or the rest decides
one_more : (falls : Bool) (s t : ℕ) (rest : Bool) → (not (falls || ltb t s) && rest) ≡ (not falls && (leb s t && rest))
one_more true s t rest = refl
one_more false s t rest =
    by_cases (dec_lt t s) (λ (h : t < s). rw (lt-ltb t s h, lt-leb s t h)) (λ (h : t < s → ⊥). rw (le-ltb t s (omega arith), le-leb s t (omega arith)))

-- a test of the first, and one of the rest
rises-tested : (end : ℕ) (starts : List ℕ) (steady last : Bool) → 0 < length starts → (steady && last) ≡ rises_from (get_or starts 0 0) end (drop 1 starts)
    → ((steady && eqb (get_or starts 0 0) 0) && last) ≡ rises end starts
unfolding rises
rises-tested end [] steady last h e = absurd (omega arith)
rises-tested end (s ∷ starts) steady last h e = exchange steady (eqb s 0) last ∙ ap (λ (t : Bool). eqb s 0 && t) e
  where
    exchange : (a b c : Bool) → ((a && b) && c) ≡ (b && (a && c))
    exchange true true c = refl
    exchange true false c = refl
    exchange false true c = refl
    exchange false false c = refl

module _ {end : ℕ} {starts : List ℕ} {i : ℕ} {falls : Bool} (s : Scanning end starts i falls) where
  pub scan-turn : i + 1 < length starts → Scanning end starts (i + 1) (falls || ltb (get_or starts (i + 1) 0) (get_or starts i 0))
  unfolding rises_from
  scan-turn h =
      record {
        inside = h;
        same = one_more falls (get_or starts i 0) (get_or starts (i + 1) 0) (rises_from (get_or starts (i + 1) 0) end (drop (i + 1 + 1) starts)) ∙ rw next at s.same;
      }
    where
      next : drop (i + 1) starts ≡ get_or starts (i + 1) 0 ∷ drop (i + 1 + 1) starts
      next = drop-cons starts (i + 1) 0 h ∙ ap (λ (k : ℕ). get_or starts (i + 1) 0 ∷ drop k starts) (sym (add-one (i + 1)))

  -- the three tests at the end
  pub scan-end : length starts ≤ i + 1 → {last : ℕ} → last ≡ get_or starts i 0 → ((not falls && eqb (get_or starts 0 0) 0) && eqb last end) ≡ rises end starts
  unfolding rises_from
  scan-end h e =
      rw e (rises-tested end starts (not falls) (eqb (get_or starts i 0) end) (omega (arith, s.inside)) (rw (drop_of_length-le starts {i = i + 1} h) at s.same))

-- a start that rises is at least the one before it, and at most the end
from-rises : (k end : ℕ) (starts : List ℕ) → rises_from k end starts ≡ true → (k ≤ end) × ((i : ℕ) → i < length starts → (get_or (k ∷ starts) i 0 ≤ get_or starts i 0) × (get_or starts i 0 ≤ end))
unfolding rises_from
from-rises k end [] e = (omega (arith, eqb-true k end e), λ i h. absurd (omega arith))
from-rises k end (s ∷ starts) e =
    let (l, r) = and_both (leb k s) (rises_from s end starts) e in
    let (m, f) = from-rises s end starts r in
    let a : k ≤ s = leb-true k s l in
    (omega (arith, a, m), entry a m f)
  where
    entry : k ≤ s → s ≤ end → ((i : ℕ) → i < length starts → (get_or (s ∷ starts) i 0 ≤ get_or starts i 0) × (get_or starts i 0 ≤ end))
        → (i : ℕ) → i < suc (length starts) → (get_or (k ∷ s ∷ starts) i 0 ≤ get_or (s ∷ starts) i 0) × (get_or (s ∷ starts) i 0 ≤ end)
    entry a m f zero h = (a, m)
    entry a m f (suc i) h = f i (omega arith)

pub rises-entries : (end : ℕ) (starts : List ℕ) → rises end starts ≡ true → (v : ℕ) → v + 1 < length starts
    → (get_or starts v 0 ≤ get_or starts (v + 1) 0) × (get_or starts (v + 1) 0 ≤ end)
unfolding rises
rises-entries end [] e v h = absurd (omega arith)
rises-entries end (s ∷ starts) e v h =
    rw add-one ((from-rises s end starts (and_both (eqb s 0) (rises_from s end starts) e).1).1 v (omega (arith, add-one v)))
