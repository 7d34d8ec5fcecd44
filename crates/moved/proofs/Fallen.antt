-- Parents that fall, one by one and then all at once, and the lowest that has fallen.
-- Assumes nothing.
use mathlib.Core.Path.{◌≡◌, refl, sym, subst, ◌∙◌}
use mathlib.Core.Logic.{◌≢◌, ◌⊎◌, inl, inr, ⊎_elim, by_cases}
use mathlib.Core.List.{List}
use Prim.Native.Nat.{ℕ, ◌≤◌, ◌<◌, min}
use native.Mathlib.Nat.{le_refl}
use native.Mathlib.Decide.{ℕ_discrete, dec_lt}
use native.Mathlib.Omega.{arith}
use lib.ListN.{length, get_or, set, length-set}
use lib.Seq.{get_or-set_same, get_or-set_other}
use Rattle.game.specs.Game.{absent}
use Rattle.moved.specs.Steps.{Differ, Fallen}

-- at first nothing has
pub fallen-none : (was : List ℕ) → Fallen was was absent
fallen-none was = record { long = refl; falls = λ z. le_refl (get_or was z absent); differ = record { same = λ z h. refl; there = inl refl } }

-- where two tables differ at r, or nowhere
abbrev There : (was is : List ℕ) (r : ℕ) → Type 0
There was is r = (r ≡ absent) ⊎ ((r < length was) × (get_or is r absent ≢ get_or was r absent))

-- the lower of two such ranks is one
lower-there : (was is : List ℕ) (r s : ℕ) → There was is r → (s < r → There was is s) → There was is (min r s)
lower-there was is r s a b = by_cases (dec_lt s r)
    (λ (l : s < r). let e : s ≡ min r s = omega arith in subst (There was is) e (b l))
    (λ (n : s < r → ⊥). let e : r ≡ min r s = omega arith in subst (There was is) e a)

-- one parent more falls
pub fallen-set : {was is : List ℕ} {r : ℕ} (w y : ℕ) → Fallen was is r → w < length is → y < get_or is w absent → Fallen was (set is w y) (min r w)
fallen-set {was} {is} {r} w y f inside low = record {
  long = length-set is w y ∙ f.long;
  falls = falls;
  differ = record {
    same = λ z h. other z (omega arith) ∙ f.differ.same z (omega arith);
    there = lower-there was (set is w y) r w (moved f.differ.there) (λ l. inr (omega (arith, f.long), λ e. omega (arith, here, f.falls w, e)));
  };
}
  where
    here : get_or (set is w y) w absent ≡ y
    here = get_or-set_same is w y absent inside

    other : (z : ℕ) → z ≢ w → get_or (set is w y) z absent ≡ get_or is z absent
    other z d = get_or-set_other is w z y absent d

    lower : (z : ℕ) → get_or (set is w y) z absent ≤ get_or is z absent
    lower z = by_cases (ℕ_discrete z w)
        (λ (e : z ≡ w). subst (λ (x : ℕ). get_or (set is w y) x absent ≤ get_or is x absent) (sym e) (omega (arith, here)))
        (λ (d : z ≢ w). omega (arith, other z d))

    falls : (z : ℕ) → get_or (set is w y) z absent ≤ get_or was z absent
    falls z = omega (arith, lower z, f.falls z)

    -- what had fallen falls no less
    moved : There was is r → There was (set is w y) r
    moved = ⊎_elim (λ e. inl e) (λ h. inr (h.0, λ e. h.1 (omega (arith, lower r, f.falls r, e))))

-- some have fallen, and further ones fall: the lowest of both
pub fallen-on : {was is more : List ℕ} {r s : ℕ} → Fallen was is r → Differ is more s → ((z : ℕ) → get_or more z absent ≤ get_or is z absent) → Differ was more (min r s)
fallen-on {was} {is} {more} {r} {s} f d falls = record {
  same = λ z h. d.same z (omega arith) ∙ f.differ.same z (omega arith);
  there = lower-there was more r s
      (⊎_elim (λ e. inl e) (λ h. inr (h.0, λ e. h.1 (omega (arith, falls r, f.falls r, e)))) f.differ.there)
      (λ l. ⊎_elim (λ e. inl e) (λ h. inr (omega (arith, h.0, f.long), λ e. h.1 (e ∙ sym (f.differ.same s l)))) d.there);
}
