-- The four bytes of an absent parent, compared with a file's.
-- Assumes nothing.
use mathlib.Core.Path.{◌≡◌, sym}
use mathlib.Core.Logic.{by_cases}
use mathlib.Core.Bool.{true, ◌&&◌, and-false}
use mathlib.Core.List.{List}
use Prim.Native.Nat.{ℕ, ◌+◌, ◌*◌, ◌<◌}
use native.Mathlib.Decide.{ℕ_discrete}
use native.Mathlib.Omega.{arith}
use lib.Dec.{eqb}
use lib.ListN.{get_or}
use borrow.Author.Tests.{eq-eqb, ne_eqb}
use Rattle.words.specs.Word.{word_of, word_at}
use Rattle.game.specs.Game.{absent}

-- four bytes are all FF exactly if their word is absent
absent-bytes : (a b c d : ℕ) → a < 256 → b < 256 → c < 256 → d < 256
    → (eqb a 255 && (eqb b 255 && (eqb c 255 && (eqb d 255 && true)))) ≡ eqb (word_of a b c d) absent
unfolding word_of
absent-bytes a b c d ha hb hc hd =
    by_cases (ℕ_discrete a 255)
    (λ (ea : a ≡ 255). by_cases (ℕ_discrete b 255)
    (λ (eb : b ≡ 255). by_cases (ℕ_discrete c 255)
    (λ (ec : c ≡ 255). by_cases (ℕ_discrete d 255)
    (λ (ed : d ≡ 255). rw (eq-eqb a 255 ea, eq-eqb b 255 eb, eq-eqb c 255 ec, eq-eqb d 255 ed) (sym (eq-eqb word absent (omega arith))))
    (λ (nd : d ≡ 255 → ⊥). rw (ne_eqb d 255 nd, and-false (eqb c 255), and-false (eqb b 255), and-false (eqb a 255)) (sym (ne_eqb word absent (λ e. omega arith)))))
    (λ (nc : c ≡ 255 → ⊥). rw (ne_eqb c 255 nc, and-false (eqb b 255), and-false (eqb a 255)) (sym (ne_eqb word absent (λ e. omega arith)))))
    (λ (nb : b ≡ 255 → ⊥). rw (ne_eqb b 255 nb, and-false (eqb a 255)) (sym (ne_eqb word absent (λ e. omega arith)))))
    (λ (na : a ≡ 255 → ⊥). rw (ne_eqb a 255 na) (sym (ne_eqb word absent (λ e. omega arith))))
  where
    word : ℕ
    word = a + 256 * b + 65536 * c + 16777216 * d

-- the same of four bytes of a file
pub absent-at : (bytes : List ℕ) (at : ℕ) → ((i : ℕ) → get_or bytes i 0 < 256)
    → (eqb (get_or bytes at 0) 255 && (eqb (get_or bytes (at + 1) 0) 255 && (eqb (get_or bytes (at + 2) 0) 255 && (eqb (get_or bytes (at + 3) 0) 255 && true))))
    ≡ eqb (word_at bytes at) absent
unfolding word_at
absent-at bytes at h = absent-bytes _ _ _ _ (h at) (h (at + 1)) (h (at + 2)) (h (at + 3))
