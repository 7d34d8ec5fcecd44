-- Text that is put behind text.
-- Assumes nothing.
use mathlib.Core.Path.{◌≡◌, refl, sym, ap, ◌∙◌}
use mathlib.Core.List.{List, [], ◌++◌, append_assoc}
use Prim.Native.Nat.{ℕ, ◌+◌, ◌≤◌}
use native.Mathlib.Nat.{add-zero}
use native.Mathlib.Omega.{arith}
use lib.ListN.{length, take, drop, length-append}
use lib.Seq.{sets, length-sets, sets-eq, take_at, drop_at, drop-drop}
use borrow.Rule.Slice.PartMut.{put_mid}
use Rattle.words.proofs.Stores.{stores-append}
use Rattle.decimal.specs.Put.{PutText}

pub put-length : {was text now : List ℕ} {at end : ℕ} → PutText was at text now end → length now ≡ length was
put-length {was} {text} {at = at} p = ap length p.table ∙ length-sets was at text

-- nothing is put
pub put-none : (was : List ℕ) (at : ℕ) → at ≤ length was → PutText was at [] was at
put-none was at h = record { fits = omega (arith, add-zero at); table = refl; ends = sym (add-zero at) }

-- text that begins where other text ended
pub put_on : {was text more mid now : List ℕ} {at between end : ℕ} → PutText was at text mid between → PutText mid between more now end → PutText was at (text ++ more) now end
put_on {was} {text} {more} {mid} {now} {at} {between} {end} p q =
    record {
      fits = omega (arith, length-append text more, p.ends, q.fits, put-length p);
      table = q.table ∙ ap (λ (i : ℕ). sets mid i more) p.ends ∙ ap (λ (xs : List ℕ). sets xs (at + length text) more) p.table ∙ stores-append was text more at;
      ends = omega (arith, length-append text more, p.ends, q.ends);
    }

-- a whole text from the front of a table on: it is what stands there, and the rest is as it was
pub put_front : {was text now : List ℕ} {end : ℕ} → PutText was 0 text now end → (take end now ≡ text) × (drop end now ≡ drop end was) × (end ≡ length text) × (end ≤ length now)
put_front {was} {text} {now} {end} p =
    let e : end ≡ length text = omega (arith, p.ends) in
    let split : now ≡ text ++ drop end was = p.table ∙ sets-eq text was 0 p.fits ∙ ap (λ (i : ℕ). text ++ drop i was) (sym p.ends) in (
      ap (take end) split ∙ take_at text (drop end was) end (sym e),
      ap (drop end) split ∙ drop_at text (drop end was) end (sym e),
      e,
      omega (arith, p.fits, p.ends, put-length p),
    )

-- a byte string is copied to where it is put
pub put_part : {was text part : List ℕ} {at k : ℕ} → at + length text ≤ length was → part ≡ text → k ≡ length text → PutText was at text (put_mid at k was part) (at + length text)
put_part {was} {text} {at = at} {k} h e s =
    record {
      fits = h;
      table = (λ i. take at was ++ (e i ++ (drop-drop k at was ∙ ap (λ (m : ℕ). drop (at + m) was) s) i)) ∙ sym (append_assoc (take at was) text _) ∙ sym (sets-eq text was at h);
      ends = refl;
    }
