-- The fields of a line, and the room that they take.
-- Assumes nothing.
use mathlib.Core.Path.{◌≡◌, ap, subst}
use mathlib.Core.List.{List, [], ◌∷◌, ◌++◌}
use Prim.Native.Nat.{ℕ, ◌+◌, ◌^◌, ◌≤◌, ◌<◌}
use native.Mathlib.Omega.{arith}
use lib.ListN.{length, length-append}
use borrow.Author.Tests.{eq-eqb, ne_eqb}
use Rattle.game.specs.Game.{absent}
use Rattle.decimal.specs.Ascii.{ascii}
use Rattle.decimal.specs.Decimal.{decimal}
use Rattle.decimal.specs.Put.{PutText}
use Rattle.decimal.proofs.Digits.{decimal-short}
use Rattle.lines.specs.Line.{spaced, parent_text}
use Rattle.lines.specs.FieldSteps.{entry_room}

-- numbers of 32 and of 64 bits
pub word-digits : (x : ℕ) → x < 2 ^ 32 → length (decimal x) ≤ 10
word-digits x h = decimal-short 9 x (omega arith)

pub long-digits : (x : ℕ) → x < 2 ^ 64 → length (decimal x) ≤ 20
long-digits x h = decimal-short 19 x (omega arith)

-- a number x, handed on as y, and the byte behind it
pub put_as : {was now : List ℕ} {at end x y : ℕ} (after : ℕ) → y ≡ x → PutText was at (decimal y ++ (after ∷ [])) now end → PutText was at (decimal x ++ (after ∷ [])) now end
put_as {was} {now} {at} {end} after e p = subst (λ (z : ℕ). PutText was at (decimal z ++ (after ∷ [])) now end) e p

module _ (digits : ℕ) {x y : ℕ} (e : y ≡ x) (h : length (decimal x) ≤ digits) where
  short : length (decimal y) ≤ digits
  short = omega (arith, ap (λ (z : ℕ). length (decimal z)) e)

  pub field_room : (at room : ℕ) → at + (digits + 1) ≤ room → at + length (decimal y) < room
  field_room at room l = omega (arith, short)

  pub put-field : {was now : List ℕ} {at end : ℕ} (after : ℕ) → PutText was at (decimal y ++ (after ∷ [])) now end
      → PutText was at (decimal x ++ (after ∷ [])) now end × (end ≤ at + (digits + 1))
  put-field after p = (put_as after e p, omega (arith, p.ends, length-append (decimal y) (after ∷ []), short))

-- a parent
module _ {was now : List ℕ} {at end p : ℕ} where
  pub put-absent : p ≡ absent → PutText was at (45 ∷ 32 ∷ []) now end → PutText was at (spaced (parent_text p)) now end × (end ≤ at + entry_room)
  unfolding spaced parent_text ascii
  put-absent e q = (rw (eq-eqb p absent e) q, omega (arith, q.ends))

  pub put-present : (p ≡ absent → ⊥) → PutText was at (decimal p ++ (32 ∷ [])) now end × (end ≤ at + entry_room) → PutText was at (spaced (parent_text p)) now end × (end ≤ at + entry_room)
  unfolding spaced parent_text ascii
  put-present d q = rw (ne_eqb p absent d) q
