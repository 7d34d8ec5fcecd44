-- A number that is put digit by digit: its tenth first, then the last digit.
-- Assumes nothing.
use mathlib.Core.Path.{◌≡◌, sym, ap, subst, ◌∙◌}
use mathlib.Core.List.{List, [], ◌∷◌, ◌++◌}
use Prim.Native.Nat.{ℕ, ◌+◌, ◌/◌, ◌%◌, ◌≤◌, ◌<◌}
use native.Mathlib.Omega.{arith}
use lib.ListN.{length, length-append}
use Rattle.decimal.specs.Decimal.{decimal}
use Rattle.decimal.specs.Put.{PutText}
use Rattle.decimal.proofs.Digits.{decimal_digit, decimal-more}
use Rattle.decimal.proofs.Runs.{put-length, put_on}

-- a number below 10
module _ {x : ℕ} (h : x < 10) where
  pub digit_room : (at end : ℕ) → at + length (decimal x) ≤ end → at < end
  digit_room at end room = omega (arith, room, ap length (decimal_digit x h))

  pub put-digit : {was now : List ℕ} {at end d : ℕ} → d ≡ 48 + x → PutText was at (d ∷ []) now end → PutText was at (decimal x) now end
  put-digit {was} {now} {at} {end} e p = subst (λ (text : List ℕ). PutText was at text now end) (ap (λ (v : ℕ). v ∷ []) e ∙ sym (decimal_digit x h)) p

-- a larger one
module _ {x : ℕ} (h : 10 ≤ x) where
  one_more : length (decimal x) ≡ length (decimal (x / 10)) + 1
  one_more = ap length (decimal-more x h) ∙ length-append (decimal (x / 10)) ((48 + x % 10) ∷ [])

  pub tenth-room : (at end : ℕ) → at + length (decimal x) ≤ end → at + length (decimal (x / 10)) ≤ end
  tenth-room at end room = omega (arith, room, one_more)

  pub last-room : {was mid : List ℕ} {at last : ℕ} → at + length (decimal x) ≤ length was → PutText was at (decimal (x / 10)) mid last → last < length mid
  last-room room p = omega (arith, room, one_more, put-length p, p.ends)

  pub put_last : {was mid now : List ℕ} {at last end d : ℕ} → PutText was at (decimal (x / 10)) mid last → d ≡ 48 + x % 10 → PutText mid last (d ∷ []) now end
      → PutText was at (decimal x) now end
  put_last {was} {mid} {now} {at} {last} {end} p e q =
      subst (λ (text : List ℕ). PutText was at text now end) (ap (λ (v : ℕ). decimal (x / 10) ++ (v ∷ [])) e ∙ sym (decimal-more x h)) (put_on p q)
