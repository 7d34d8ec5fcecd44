-- Words that a loop takes from bytes into a table, one by one.
-- Assumes nothing.
use mathlib.Core.Path.{◌≡◌, sym, ap, ◌∙◌}
use mathlib.Core.List.{List, ◌∷◌, ◌++◌, append-nil}
use Prim.Native.Nat.{ℕ, suc, ◌+◌, ◌*◌, ◌/◌, ◌≤◌, ◌<◌}
use native.Mathlib.Numerals.{add-one}
use native.Mathlib.Omega.{arith}
use lib.ListN.{length, take, drop, set, length-set}
use lib.Seq.{take_all, take-suc-set, append_snoc}
use Rattle.words.specs.Word.{word_at, words}
use Rattle.words.proofs.Bytes.{words-drop, words-end}

-- at i the table begins with the words before it, and those from it on are left
pub record Taken (bytes table : List ℕ) (i : ℕ) : Type 0 where
  pub long : length table ≡ length bytes / 4
  pub so_far : take i table ++ words (drop (4 * i) bytes) ≡ words bytes

module _ {bytes table : List ℕ} {i : ℕ} (t : Taken bytes table i) where
  pub taken-turn : {w : ℕ} → i < length table → w ≡ word_at bytes (4 * i) → Taken bytes (set table i w) (i + 1)
  taken-turn {w} h e =
      record { long = length-set table i w ∙ t.long; so_far = rw (add-one, take-suc-set table i w h, append_snoc) (ap (λ (ws : List ℕ). take i table ++ ws) left ∙ t.so_far) }
    where
      more : 4 * suc i ≡ 4 * i + 4
      more = omega arith

      left : w ∷ words (drop (4 * suc i) bytes) ≡ words (drop (4 * i) bytes)
      left = ap (λ (k : ℕ). w ∷ words (drop k bytes)) more ∙ ap (λ (v : ℕ). v ∷ words (drop (4 * i + 4) bytes)) e ∙ sym (words-drop bytes (4 * i) (omega (arith, t.long)))

  pub taken-all : length table ≤ i → table ≡ words bytes
  taken-all h =
      sym (take_all i table h) ∙ sym (append-nil (take i table)) ∙ ap (λ (ws : List ℕ). take i table ++ ws) (sym (words-end bytes (4 * i) (omega (arith, t.long)))) ∙ t.so_far
