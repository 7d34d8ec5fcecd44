-- Going down the ranks, each takes the top of what it hangs on. The table that results is the table of tops.
-- Assumes nothing.
use mathlib.Core.Path.{◌≡◌, sym, ◌∙◌}
use mathlib.Core.Logic.{◌≢◌, by_cases}
use mathlib.Core.Bool.{Bool}
use mathlib.Core.List.{List}
use Prim.Native.Nat.{ℕ, zero, suc, ◌+◌, ◌≤◌, ◌<◌}
use native.Mathlib.Decide.{dec_lt}
use native.Mathlib.Omega.{arith}
use lib.ListN.{length, get_or}
use Rattle.game.specs.Table.{tabulate}
use Rattle.game.specs.Game.{absent}
use Rattle.game.proofs.Sound.{Sound}
use Rattle.game.proofs.Tables.{tabulate-unique}
use Rattle.game.proofs.Bools.{test-cases}
use Rattle.game.proofs.Paths.{parent-higher}
use Rattle.cut.specs.Cut.{top}
use Rattle.cut.specs.Steps.{Hanging, Tops, holder}
use Rattle.groups.proofs.Ranks.{holder-up, holder-cut, holder-root}
use Rattle.groups.proofs.Groups.{top-root, top-cut, top_up}

-- the ranks from x on have climbed
pub record Climbing (was link : List ℕ) (x : ℕ) : Type 0 where
  pub size : length link ≡ length was
  pub inside : x ≤ length was
  pub before : (y : ℕ) → y < x → get_or link y 0 ≡ get_or was y 0
  pub stays : (y : ℕ) → x ≤ y → y < length was → get_or was y 0 ≡ y → get_or link y 0 ≡ y
  pub climbs : (y : ℕ) → x ≤ y → y < length was → get_or was y 0 ≢ y → get_or link y 0 ≡ get_or link (get_or was y 0) 0

-- what each rank hangs on in a sound forest, and the table of tops
module _ {p : List ℕ} (s : Sound p) (u : length p ≤ absent) (cuts : ℕ → Bool) (link : List ℕ) (e : length link ≡ length p)
    (held : (x : ℕ) → x < length p → get_or link x 0 ≡ holder p cuts x) where
  -- x hangs on itself and is the top, or on its parent and has the parent's top
  way : {A : Type 0} (x : ℕ) → x < length p → (get_or link x 0 ≡ x → top p cuts x ≡ x → A)
      → (x < get_or link x 0 → get_or link x 0 < length p → top p cuts x ≡ top p cuts (get_or link x 0) → A) → A
  way x l self up =
      by_cases (dec_lt (get_or p x absent) (length p))
      (λ h.
      test-cases (cuts x)
      (λ c. self (held x l ∙ holder-cut p cuts x c) (top-cut p cuts x c))
      (λ c.
      let f : get_or link x 0 ≡ get_or p x absent = held x l ∙ holder-up p cuts x h c in
      up (rw f (parent-higher s u x h).0) (rw f h) (rw f (top_up s u cuts x h c))))
      (λ h. self (held x l ∙ holder-root p cuts x h) (top-root s u cuts x h))

  pub hanging-up : Hanging link
  hanging-up =
      record {
        up =
            λ x l.
            let h : x < length p = omega (arith, e) in
            way x h (λ f t. (omega (arith, f), omega (arith, f, l))) (λ a b t. (omega (arith, a), omega (arith, b, e)));
      }

  tops-from : {tops : List ℕ} → Tops link tops → (k x : ℕ) → length p ≤ x + k → x < length p → get_or tops x 0 ≡ top p cuts x
  tops-from c zero x h l = absurd (omega arith)
  tops-from c (suc k) x h l =
      way x l
      (λ f t. c.stays x (omega (arith, e)) f ∙ sym t)
      (λ a b t. c.climbs x (omega (arith, e)) (λ (f : get_or link x 0 ≡ x). omega (arith, f, a)) ∙ tops-from c k (get_or link x 0) (omega (arith, a)) b ∙ sym t)

  pub climbed-tops : {tops : List ℕ} → Tops link tops → length tops ≡ length link → tops ≡ tabulate (length p) (top p cuts)
  climbed-tops {tops} c f = tabulate-unique (length p) (top p cuts) tops 0 (f ∙ e) (λ x l. tops-from c (length p) x (omega arith) l)
