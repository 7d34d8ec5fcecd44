-- A scan of a table of parents, and what a net without damage is.
-- Assumes nothing.
use mathlib.Core.Path.{◌≡◌, refl, sym, ◌∙◌}
use mathlib.Core.Bool.{Bool, true, false, not, ◌&&◌, ◌||◌, and_assoc, and-true}
use mathlib.Core.List.{List}
use Prim.Native.Nat.{ℕ, suc, ◌+◌, ◌≤◌, ◌<◌}
use native.Mathlib.Omega.{arith}
use native.Mathlib.Numerals.{add-one}
use lib.Dec.{ltb}
use lib.ListN.{length, get_or, drop, drop_of_length-le}
use lib.Seq.{drop-cons}
use borrow.Author.Tests.{ltb-false}
use Rattle.game.specs.Tree.{sound, sound_from, sound_parent}
use Rattle.game.proofs.Sound.{Sound, sound-true}
use Rattle.refusal.specs.Limits.{max_total}
use Rattle.net.specs.Damage.{damaged_by}

-- The scan at i: what was found of the entries before it, and those that are left, decide.
pub record Scanned (p : List ℕ) (i : ℕ) (found : Bool) : Type 0 where
  pub inside : i ≤ length p
  pub rest : (found && sound_from (length p) i (drop i p)) ≡ sound p

pub scan-start : (p : List ℕ) → Scanned p 0 true
unfolding sound
scan-start p = record { inside = omega arith; rest = refl }

pub scan-on : {p : List ℕ} {n i rank : ℕ} {found here : Bool} → Scanned p i found → i < length p → n ≡ length p → rank ≡ i
    → here ≡ sound_parent n rank (get_or p i 0) → Scanned p (i + 1) (found && here)
unfolding sound_from
scan-on {p} {i = i} {found = found} s h e r q = record { inside = omega arith; rest = rw (add-one, q, e, r) (and_assoc found _ _ ∙ sym split ∙ s.rest) }
  where
    split : (found && sound_from (length p) i (drop i p)) ≡ (found && (sound_parent (length p) i (get_or p i 0) && sound_from (length p) (suc i) (drop (suc i) p)))
    split = rw (drop-cons p i 0)

pub scan-end : {p : List ℕ} {i : ℕ} {found : Bool} → Scanned p i found → length p ≤ i → found ≡ sound p
unfolding sound_from
scan-end {p} {i} {found} s h = sym (rw (drop_of_length-le p h) (and-true found)) ∙ s.rest

-- a net that is not damaged has a sound table and a total within the limit
pub undamaged : (p : List ℕ) (t : ℕ) → damaged_by p t ≡ false → Sound p × (t ≤ max_total)
unfolding damaged_by
undamaged p t e = go (sound p) refl e
  where
    go : (b : Bool) → sound p ≡ b → (not b || ltb max_total t) ≡ false → Sound p × (t ≤ max_total)
    go true s f = (sound-true p s, ltb-false max_total t f)
    go false s f = absurd (mathlib.Core.Bool.true≢false f)
