-- A viewer that rereads the parents from where the forest moved misses nothing: by the definition of the answer, where parents only fall.
-- Assumes nothing.
use mathlib.Core.Path.{◌≡◌, refl, sym, ap, subst, ◌∙◌}
use mathlib.Core.Logic.{⊎_elim, by_cases}
use mathlib.Core.List.{List, ◌++◌}
use Prim.Native.Nat.{ℕ, ◌≤◌, ◌<◌, min}
use native.Mathlib.Decide.{dec_lt}
use native.Mathlib.Omega.{arith}
use lib.ListN.{length, get_or, take, drop, length-take, take-append-drop}
use lib.Seq.{ext_get_or, get_or-take}
use borrow.Author.Tests.{ltb-true, lt-ltb}
use Rattle.std.specs.Prelude.{Option, Some, None}
use Rattle.game.specs.Game.{absent}
use Rattle.moved.specs.Moved.{moved_from}
use Rattle.moved.specs.Followed.{below_moved, reread, lower_of, Followed}
use Rattle.moved.proofs.Differ.{differ-some, differ-moved, moved_none, moved-some, differ-still}

-- tables that are the same below r are the same when the old one is reread from there on
reread-from : (was is : List ℕ) → length is ≡ length was → (r : ℕ) → ((x : ℕ) → x < r → get_or is x absent ≡ get_or was x absent) → take r was ++ drop r is ≡ is
reread-from was is long r same = ap (λ (t : List ℕ). t ++ drop r is) front ∙ take-append-drop r is
  where
    front : take r was ≡ take r is
    front = ext_get_or absent (take r was) (take r is) (omega (arith, length-take r was, length-take r is))
        (λ z l. let k : z < r = omega (arith, length-take r was) in get_or-take r was z absent k ∙ sym (same z k) ∙ sym (get_or-take r is z absent k))

module _ {was is : List ℕ} (long : length is ≡ length was) (falls : (x : ℕ) → get_or is x absent ≤ get_or was x absent) where
  still : ((x : ℕ) → get_or is x absent ≡ get_or was x absent) → Followed None was is
  unfolding reread
  still same = record {
    falls = falls;
    kept = λ x h. same x;
    moves = λ x e. cc;
    whole = sym (ext_get_or absent is was long (λ x h. same x));
  }

  some : (r : ℕ) → ((x : ℕ) → x < r → get_or is x absent ≡ get_or was x absent) → get_or is r absent < get_or was r absent → Followed (Some r) was is
  unfolding below_moved reread
  some r same low = record {
    falls = falls;
    kept = λ x h. same x (ltb-true x r h);
    moves = λ x e. let same_rank : r ≡ x = cc in subst (λ (y : ℕ). get_or is y absent < get_or was y absent) same_rank low;
    whole = reread-from was is long r same;
  }

  -- the answer by its definition
  pub followed : length was < absent → Followed (moved_from 0 was is) was is
  followed few =
      let (r, d) = differ-some was is long few in
      subst (λ (m : Option ℕ). Followed m was is) (differ-moved long (omega arith) d)
      (⊎_elim
      (λ e. subst (λ (m : Option ℕ). Followed m was is) (sym (moved_none r e)) (still (λ x. ap (λ (t : List ℕ). get_or t x absent) (differ-still long (omega arith) d e))))
      (λ h. subst (λ (m : Option ℕ). Followed m was is) (sym (moved-some r (omega (arith, h.0)))) (some r d.same (omega (arith, falls r, h.1))))
      d.there)

-- two calls, one after the other
pub followed-on : {was is more : List ℕ} (m k : Option ℕ) → length is ≡ length was → length more ≡ length is → Followed m was is → Followed k is more → Followed (lower_of m k) was more
unfolding lower_of below_moved
followed-on {was} {is} {more} m k long longer f g = on m k f g
  where
    falls : (m k : Option ℕ) → Followed m was is → Followed k is more → (x : ℕ) → get_or more x absent ≤ get_or was x absent
    falls m k f g x = omega (arith, f.falls x, g.falls x)

    on : (m k : Option ℕ) → Followed m was is → Followed k is more → Followed (lower_of m k) was more
    on None None f g = still (longer ∙ long) (falls _ _ f g) (λ x. g.kept x refl ∙ f.kept x refl)
    on None (Some s) f g = some (longer ∙ long) (falls _ _ f g) s (λ x h. g.kept x (lt-ltb x s h) ∙ f.kept x refl) (omega (arith, g.moves s refl, f.kept s refl))
    on (Some r) None f g = some (longer ∙ long) (falls _ _ f g) r (λ x h. g.kept x refl ∙ f.kept x (lt-ltb x r h)) (omega (arith, f.moves r refl, g.falls r))
    on (Some r) (Some s) f g = some (longer ∙ long) (falls _ _ f g) (min r s)
        (λ x h. g.kept x (lt-ltb x s (omega arith)) ∙ f.kept x (lt-ltb x r (omega arith)))
        (by_cases (dec_lt s r)
        (λ (l : s < r). let e : s ≡ min r s = omega arith in subst (λ (y : ℕ). get_or more y absent < get_or was y absent) e (omega (arith, g.moves s refl, f.kept s (lt-ltb s r l))))
        (λ (n : s < r → ⊥). let e : r ≡ min r s = omega arith in subst (λ (y : ℕ). get_or more y absent < get_or was y absent) e (omega (arith, f.moves r refl, g.falls r))))
