-- The lowest rank at which two tables differ, by whatever way it was found, is what the definition answers.
-- Assumes nothing.
use mathlib.Core.Path.{◌≡◌, refl, sym, ap, ◌∙◌}
use mathlib.Core.Logic.{◌≢◌, inl, inr, ⊎_elim, by_cases}
use mathlib.Core.Bool.{Bool, cond}
use mathlib.Core.List.{List, [], ◌∷◌}
use Prim.Native.Nat.{ℕ, zero, suc, ◌+◌, ◌≤◌, ◌<◌, suc-le-suc}
use native.Mathlib.Nat.{le_of_suc-le-suc, zero-lt-suc, zero-add}
use native.Mathlib.Decide.{ℕ_discrete}
use native.Mathlib.Omega.{arith}
use lib.ListN.{length, get_or}
use lib.Seq.{ext_get_or}
use borrow.Author.Tests.{eq-eqb, ne_eqb}
use Rattle.std.specs.Prelude.{Some, None}
use Rattle.game.specs.Game.{absent}
use Rattle.moved.specs.Moved.{moved_from}
use Rattle.moved.specs.Steps.{moved_at, Differ}

-- a table beside itself
still-from : (i : ℕ) (was : List ℕ) → moved_from i was was ≡ None
unfolding moved_from
still-from i [] = refl
still-from i (p ∷ was) = ap (λ (b : Bool). cond b (moved_from (suc i) was was) (Some i)) (eq-eqb p p refl) ∙ still-from (suc i) was

-- two tables that are the same below r, and differ there
first-from : (i r : ℕ) (was is : List ℕ) → length is ≡ length was → r < length was → ((z : ℕ) → z < r → get_or is z absent ≡ get_or was z absent)
    → get_or is r absent ≢ get_or was r absent → moved_from i was is ≡ Some (i + r)
unfolding moved_from
first-from i r [] is long h same d = absurd (omega arith)
first-from i r (p ∷ was) [] long h same d = absurd (omega arith)
first-from i zero (p ∷ was) (q ∷ is) long h same d =
    ap (λ (b : Bool). cond b (moved_from (suc i) was is) (Some i)) (ne_eqb p q (λ e. d (sym e))) ∙ ap Some (omega arith)
first-from i (suc r) (p ∷ was) (q ∷ is) long h same d =
    ap (λ (b : Bool). cond b (moved_from (suc i) was is) (Some i)) (eq-eqb p q (sym (same 0 (zero-lt-suc r))))
    ∙ first-from (suc i) r was is (omega arith) (le_of_suc-le-suc h) (λ z l. same (suc z) (suc-le-suc l)) d
    ∙ ap Some (omega arith)

-- a rank that is none, and one that is
pub moved_none : (r : ℕ) → r ≡ absent → moved_at r ≡ None
unfolding moved_at
moved_none r e = ap (λ (b : Bool). cond b None (Some r)) (eq-eqb r absent e)

pub moved-some : (r : ℕ) → r ≢ absent → moved_at r ≡ Some r
unfolding moved_at
moved-some r d = ap (λ (b : Bool). cond b None (Some r)) (ne_eqb r absent d)

module _ {was is : List ℕ} (long : length is ≡ length was) (few : length was ≤ absent) where
  pub differ-still : {r : ℕ} → Differ was is r → r ≡ absent → is ≡ was
  differ-still d e = ext_get_or absent is was long (λ z h. d.same z (omega arith))

  -- what was found is what the definition answers
  pub differ-moved : {r : ℕ} → Differ was is r → moved_at r ≡ moved_from 0 was is
  differ-moved {r} d = ⊎_elim
      (λ e. moved_none r e ∙ sym (still-from 0 was) ∙ ap (moved_from 0 was) (sym (differ-still d e)))
      (λ h. moved-some r (omega (arith, h.0)) ∙ sym (first-from 0 r was is long h.0 d.same h.1 ∙ ap Some (zero-add r)))
      d.there

-- there is always such a rank
pub differ-some : (was is : List ℕ) → length is ≡ length was → length was < absent → ((r : ℕ) × Differ was is r)
differ-some [] [] long few = (absent, record { same = λ z h. refl; there = inl refl })
differ-some [] (q ∷ is) long few = absurd (omega arith)
differ-some (p ∷ was) [] long few = absurd (omega arith)
differ-some (p ∷ was) (q ∷ is) long few =
    let (r, d) = differ-some was is (omega arith) (omega arith) in
    by_cases (ℕ_discrete q p)
    (λ (e : q ≡ p). ⊎_elim
    (λ n. (absent, record { same = on e r d (omega arith); there = inl refl }))
    (λ h. (suc r, record { same = on e r d (omega arith); there = inr (suc-le-suc h.0, h.1) }))
    d.there)
    (λ (n : q ≢ p). (0, record { same = λ z h. absurd (omega arith); there = inr (zero-lt-suc (length was), n) }))
  where
    on : q ≡ p → (r : ℕ) → Differ was is r → {k : ℕ} → k ≤ suc r → (z : ℕ) → z < k → get_or (q ∷ is) z absent ≡ get_or (p ∷ was) z absent
    on e r d le zero h = e
    on e r d le (suc z) h = d.same z (omega arith)
