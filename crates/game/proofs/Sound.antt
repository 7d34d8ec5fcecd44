-- Sound tables of parents: an entry is absent or names a higher rank of the table. The test of the definitions says just that,
-- and a store of such an entry keeps it. Inside a table the default of a read does not matter.
-- Assumes nothing.
use mathlib.Core.Path.{◌≡◌, refl}
use mathlib.Core.Logic.{◌≢◌, ◌⊎◌, inl, inr, ⊎_elim, by_cases}
use mathlib.Core.Bool.{true, ◌&&◌}
use mathlib.Core.List.{List, [], ◌∷◌}
use Prim.Native.Nat.{ℕ, zero, suc, ◌+◌, ◌<◌, suc-le-suc}
use native.Mathlib.Nat.{not-suc-le-zero, le_of_suc-le-suc, zero-lt-suc, zero-add, suc-add, add-zero, add-suc}
use native.Mathlib.Decide.{ℕ_discrete}
use lib.Dec.{eqb, ltb}
use lib.ListN.{length, get_or, set, length-set}
use lib.Seq.{get_or-set_same, get_or-set_other}
use borrow.Author.Tests.{eqb-true, eq-eqb, ltb-true, lt-ltb}
use Rattle.game.specs.Game.{absent}
use Rattle.game.specs.Tree.{sound_parent, sound_from, sound}
use Rattle.game.proofs.Bools.{or_cases, or_left, or_right, and_both, both-and}

-- q may be the parent of rank r in a table of n
abbrev pub Allowed : ℕ → ℕ → ℕ → Type 0
Allowed n r q = (q ≡ absent) ⊎ ((r < q) × (q < n))

pub record Sound (p : List ℕ) : Type 0 where
  pub each : (r : ℕ) → r < length p → Allowed (length p) r (get_or p r absent)

-- the test of one entry
pub allowed-true : (n r q : ℕ) → sound_parent n r q ≡ true → Allowed n r q
unfolding sound_parent
allowed-true n r q e =
    ⊎_elim
    (λ h. inl (eqb-true q absent h))
    (λ h. let t = and_both (ltb r q) (ltb q n) h in inr (ltb-true r q t.0, ltb-true q n t.1))
    (or_cases (eqb q absent) (ltb r q && ltb q n) e)

pub true-allowed : (n r q : ℕ) → Allowed n r q → sound_parent n r q ≡ true
unfolding sound_parent
true-allowed n r q (inl e) = or_left (eqb q absent) (ltb r q && ltb q n) (eq-eqb q absent e)
true-allowed n r q (inr h) =
    or_right (eqb q absent) (ltb r q && ltb q n) (both-and (ltb r q) (ltb q n) (lt-ltb r q h.0) (lt-ltb q n h.1))

from-true : (n i : ℕ) (p : List ℕ) → sound_from n i p ≡ true → (r : ℕ) → r < length p → Allowed n (i + r) (get_or p r absent)
unfolding sound_from
from-true n i [] e r h = absurd (not-suc-le-zero h)
from-true n i (q ∷ p) e zero h = rw add-zero (allowed-true n i q (and_both _ (sound_from n (suc i) p) e).0)
from-true n i (q ∷ p) e (suc r) h =
    rw (add-suc, ← suc-add) (from-true n (suc i) p (and_both (sound_parent n i q) _ e).1 r (le_of_suc-le-suc h))

true-from : (n i : ℕ) (p : List ℕ) → ((r : ℕ) → r < length p → Allowed n (i + r) (get_or p r absent)) → sound_from n i p ≡ true
unfolding sound_from
true-from n i [] h = refl
true-from n i (q ∷ p) h =
    both-and _ _
    (true-allowed n i q (rw add-zero at (h 0 (zero-lt-suc (length p)))))
    (true-from n (suc i) p (λ r l. rw (suc-add, ← add-suc) (h (suc r) (suc-le-suc l))))

-- a table that passes the test is sound
pub sound-true : (p : List ℕ) → sound p ≡ true → Sound p
unfolding sound
sound-true p e = record { each = λ r h. rw zero-add at (from-true (length p) 0 p e r h) }

-- a sound table passes the test
pub true-sound : {p : List ℕ} → Sound p → sound p ≡ true
unfolding sound
true-sound {p} s = true-from (length p) 0 p (λ r h. rw zero-add (s.each r h))

-- inside a table the default of a read is not looked at
pub get_d_default : {A : Type 0} (xs : List A) (i : ℕ) (c d : A) → i < length xs → get_or xs i c ≡ get_or xs i d
get_d_default [] i c d h = absurd (not-suc-le-zero h)
get_d_default (x ∷ xs) zero c d h = refl
get_d_default (x ∷ xs) (suc i) c d h = get_d_default xs i c d (le_of_suc-le-suc h)

-- the parent that a sound table names is higher and in the table
pub sound-parent : {p : List ℕ} → Sound p → (r : ℕ) → r < length p → get_or p r absent ≢ absent
    → (r < get_or p r absent) × (get_or p r absent < length p)
sound-parent s r h d = ⊎_elim (λ e. absurd (d e)) (λ b. b) (s.each r h)

-- a store of what is allowed leaves the table sound
pub sound-set : {p : List ℕ} → Sound p → (x y : ℕ) → Allowed (length p) x y → Sound (set p x y)
sound-set {p} s x y a = record { each = λ r h. rw length-set (go r (rw length-set at h)) }
  where
    go : (r : ℕ) → r < length p → Allowed (length p) r (get_or (set p x y) r absent)
    go r h = by_cases (ℕ_discrete r x)
        (λ (e : r ≡ x). rw (e, get_or-set_same p x y absent (rw e at h)) a)
        (λ (d : r ≢ x). rw (get_or-set_other p x r y absent d) (s.each r h))
