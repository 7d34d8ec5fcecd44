-- Laws of the limits of a division: what is outside them, a scan for a weight that is too heavy, and what is known where neither is.
-- Assumes nothing.
use mathlib.Core.Path.{◌≡◌, sym, ◌∙◌}
use mathlib.Core.Logic.{by_cases}
use mathlib.Core.Bool.{true, false, ◌||◌, true≢false}
use mathlib.Core.List.{List, [], ◌∷◌}
use Prim.Native.Nat.{ℕ, zero, suc, ◌+◌, ◌≤◌, ◌<◌}
use native.Mathlib.Numerals.{add-one}
use native.Mathlib.Decide.{dec_le}
use native.Mathlib.Omega.{arith}
use lib.Dec.{ltb}
use lib.ListN.{length, get_or, drop, drop_of_length-le}
use lib.Seq.{drop-cons}
use borrow.Author.Tests.{lt-ltb, le-ltb, le-leb, lt-leb, ltb-false}
use Rattle.game.proofs.Bools.{or-neither}
use Rattle.refusal.specs.Limits.{outside}
use Rattle.refusal.specs.DivisionLimits.{max_limit, max_blocks, bad_limits, too_heavy}

module _ (most v : ℕ) where
  pub outside_low : v < 1 → outside most v ≡ true
  unfolding outside
  outside_low h = rw (lt-leb 1 v h)

  pub outside_high : 1 ≤ v → outside most v ≡ ltb most v
  unfolding outside
  outside_high h =
      by_cases (dec_le v most)
      (λ l. rw (le-leb 1 v h, le-leb v most l, le-ltb most v l))
      (λ (l : v ≤ most → ⊥). rw (le-leb 1 v h, lt-leb v most (omega arith), lt-ltb most v (omega arith)))

  -- as one test without a branch
  pub outside_told : (ltb v 1 || ltb most v) ≡ outside most v
  outside_told =
      by_cases (dec_le 1 v)
      (λ (l : 1 ≤ v). rw (le-ltb v 1 l) (sym (outside_high l)))
      (λ (o : 1 ≤ v → ⊥). rw (lt-ltb v 1 (omega arith)) (sym (outside_low (omega arith))))

  pub outside-within : 1 ≤ v → v ≤ most → outside most v ≡ false
  outside-within h l = outside_high h ∙ le-ltb most v l

  pub outside-not : outside most v ≡ false → (1 ≤ v) × (v ≤ most)
  outside-not e =
      by_cases (dec_le 1 v)
      (λ (l : 1 ≤ v). (l, ltb-false most v (sym (outside_high l) ∙ e)))
      (λ (o : 1 ≤ v → ⊥). absurd (true≢false (sym (outside_low (omega arith)) ∙ e)))

-- the scan at i: an entry that is too heavy, one that is not, or none left
module _ (B : ℕ) (w : List ℕ) (i : ℕ) where
  pub heavy-stop : i < length w → B < get_or w i 0 → too_heavy B (drop i w) ≡ true
  unfolding too_heavy
  heavy-stop h l = rw (drop-cons w i 0, lt-ltb B (get_or w i 0) l)

  pub heavy-on : i < length w → get_or w i 0 ≤ B → too_heavy B (drop (i + 1) w) ≡ too_heavy B (drop i w)
  unfolding too_heavy
  heavy-on h l = rw (add-one, drop-cons w i 0, le-ltb B (get_or w i 0) l)

  pub heavy-end : length w ≤ i → too_heavy B (drop i w) ≡ false
  unfolding too_heavy
  heavy-end h = rw (drop_of_length-le w h)

pub limits-not : (B k : ℕ) → bad_limits B k ≡ false → (1 ≤ B) × (B ≤ max_limit) × (1 ≤ k) × (k ≤ max_blocks)
unfolding bad_limits
limits-not B k e =
    let t = or-neither (outside max_limit B) (outside max_blocks k) e in
    let b = outside-not max_limit B t.0 in
    let c = outside-not max_blocks k t.1 in
    (b.0, b.1, c.0, c.1)

-- not too heavy: no weight is above the limit
pub heavy-not : (B : ℕ) (w : List ℕ) → too_heavy B w ≡ false → (x : ℕ) → get_or w x 0 ≤ B
unfolding too_heavy
heavy-not B [] e x = omega arith
heavy-not B (v ∷ w) e zero = ltb-false B v (or-neither (ltb B v) (too_heavy B w) e).0
heavy-not B (v ∷ w) e (suc x) = heavy-not B w (or-neither (ltb B v) (too_heavy B w) e).1 x
