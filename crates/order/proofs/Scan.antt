-- The search for a bad order entry: the order is read from its end, and a bit set holds the entries that were read.
-- Assumes nothing.
use mathlib.Core.Path.{◌≡◌, refl, sym, ap, ◌∙◌}
use mathlib.Core.Logic.{by_cases}
use mathlib.Core.Bool.{Bool, true, false}
use mathlib.Core.List.{List, [], ◌∷◌, ◌++◌, append_assoc, append-nil}
use Prim.Native.Nat.{ℕ, ◌%◌, ◌≤◌, ◌<◌}
use native.Mathlib.Decide.{ℕ_discrete}
use native.Mathlib.Omega.{arith}
use lib.Dec.{eqb}
use lib.ListN.{length, replicate, length-set, length-replicate}
use borrow.Author.Tests.{eq-eqb, ne_eqb}
use Rattle.std.proofs.lemmas.List.{nil_from_length}
use Rattle.game.specs.Table.{member, one_if}
use Rattle.refusal.specs.Limits.{max_vertices}
use Rattle.order.specs.Order.{bad_entry, bad_order}
use Rattle.order.specs.VertexSet.{set_words, bit_at, set_bit}
use Rattle.order.proofs.Bits.{bit-none, set-bit-same, set-bit-other}
use Rattle.order.proofs.Entries.{bad-large, bad-again, bad-append, good-cons}

-- the words hold exactly the vertices of a list
pub record Holds (words vs : List ℕ) : Type 0 where
  pub bit : (v : ℕ) → bit_at words v ≡ one_if (member v vs)

holds-none : (n : ℕ) → Holds (replicate n 0) []
unfolding one_if member
holds-none n = record { bit = λ v. bit-none n v }

module _ {words vs : List ℕ} (h : Holds words vs) (v : ℕ) where
  -- the test of a vertex's bit is the test of membership
  holds-member : eqb (bit_at words v) 1 ≡ member v vs
  unfolding one_if
  holds-member = ap (λ (b : ℕ). eqb b 1) (h.bit v) ∙ test (member v vs)
    where
      test : (b : Bool) → eqb (one_if b) 1 ≡ b
      test true = refl
      test false = refl

  holds-clear : member v vs ≡ false → bit_at words v ≡ 0
  unfolding one_if
  holds-clear e = h.bit v ∙ ap one_if e

  holds_more : v % set_words < length words → member v vs ≡ false → Holds (set_bit words v) (v ∷ vs)
  unfolding one_if member
  holds_more l e = record { bit = bits }
    where
      bits : (w : ℕ) → bit_at (set_bit words v) w ≡ one_if (member w (v ∷ vs))
      bits w =
          by_cases (ℕ_discrete w v)
          (λ q. rw (q, eq-eqb v v refl) (set-bit-same words v (holds-clear e) l))
          (λ d. rw (ne_eqb w v d) (set-bit-other words v (holds-clear e) l w d ∙ h.bit w))

-- where the search stands: the entries behind those that are left were read, and are not bad
pub record Read (order words left : List ℕ) : Type 0 where
  pub read : List ℕ
  pub parts : left ++ read ≡ order
  pub size : length words ≡ set_words
  pub good : bad_entry (length order) read ≡ false
  pub holds : Holds words read

pub read_none : {order left : List ℕ} → left ≡ order → Read order (replicate set_words 0) left
unfolding bad_entry
read_none {left = left} e =
    record { read = []; parts = append-nil left ∙ e; size = length-replicate {A = ℕ} set_words 0; good = refl; holds = holds-none set_words }

-- a turn, at the last entry that is left
module _ {order words left : List ℕ} (rest : List ℕ) (v : ℕ) (r : Read order words left) (last : left ≡ rest ++ (v ∷ [])) where
  behind : rest ++ (v ∷ r.read) ≡ order
  behind = sym (append_assoc rest (v ∷ []) r.read) ∙ ap (λ (us : List ℕ). us ++ r.read) (sym last) ∙ r.parts

  read-bad : bad_entry (length order) (v ∷ r.read) ≡ true → bad_order order ≡ true
  unfolding bad_order
  read-bad b = ap (bad_entry (length order)) (sym behind) ∙ bad-append (length order) rest (v ∷ r.read) b

  pub read-large : length order ≤ v → bad_order order ≡ true
  read-large h = read-bad (bad-large (length order) v r.read h)

  pub read_again : eqb (bit_at words v) 1 ≡ true → bad_order order ≡ true
  read_again t = read-bad (bad-again (length order) v r.read (sym (holds-member r.holds v) ∙ t))

  -- the set has a bit for v
  pub read-room : length order ≤ max_vertices → v < length order → (length words ≡ set_words) × (v < max_vertices)
  read-room l h = (r.size, omega arith)

  read-new : eqb (bit_at words v) 1 ≡ false → member v r.read ≡ false
  read-new t = sym (holds-member r.holds v) ∙ t

  pub read-clear : eqb (bit_at words v) 1 ≡ false → bit_at words v ≡ 0
  read-clear t = holds-clear r.holds v (read-new t)

  pub read-on : {words' : List ℕ} → v < length order → eqb (bit_at words v) 1 ≡ false → words' ≡ set_bit words v → Read order words' rest
  unfolding set_bit
  read-on h t e =
      record {
        read = v ∷ r.read;
        parts = behind;
        size = ap length e ∙ simp length-set r.size;
        good = good-cons (length order) v r.read h (read-new t) r.good;
        holds = rw e (holds_more r.holds v (omega (arith, r.size)) (read-new t));
      }

pub read_all : {order words left : List ℕ} → Read order words left → length left ≡ 0 → bad_order order ≡ false
unfolding bad_order
read_all {order} {left = left} r e =
    let whole : r.read ≡ order = ap (λ (us : List ℕ). us ++ r.read) (sym (nil_from_length left e)) ∙ r.parts in
    ap (bad_entry (length order)) (sym whole) ∙ r.good
