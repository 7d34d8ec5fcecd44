-- Records of a link file, as loops read them one at a time.
-- Assumes nothing.
use mathlib.Core.Path.{◌≡◌, refl, sym, ap, ap₂, ◌∙◌}
use mathlib.Core.List.{List, [], ◌∷◌, ◌++◌, append-nil}
use Prim.Native.Nat.{ℕ, ◌+◌, ◌*◌, ◌/◌, ◌≤◌, ◌<◌}
use native.Mathlib.Numerals.{add-one}
use native.Mathlib.Omega.{arith}
use lib.ListN.{length, take, drop, set, drop_of_length-le}
use lib.Seq.{take_all, take-suc-set, append_snoc}
use Rattle.words.specs.Word.{word_at, words}
use Rattle.words.proofs.Bytes.{words-drop, words-length}
use Rattle.game.specs.Net.{Net, net as lent}
use Rattle.records.specs.LinkFile.{record_parents, record_weights, file_net}

-- What is left of a file at record r is the record that stands there and what is left one record on.
pub file-drop : (bytes : List ℕ) (r : ℕ) → 8 * r + 8 ≤ length bytes
    → file_net (drop (8 * r) bytes)
    ≡ lent (word_at bytes (8 * r) ∷ (file_net (drop (8 * (r + 1)) bytes)).parents) (word_at bytes (8 * r + 4) ∷ (file_net (drop (8 * (r + 1)) bytes)).weights)
unfolding file_net record_parents record_weights
file-drop bytes r h =
    let e : 8 * (r + 1) ≡ 8 * r + 4 + 4 = omega arith in
    let h₁ : 8 * r + 4 ≤ length bytes = omega arith in
    let h₂ : 8 * r + 4 + 4 ≤ length bytes = omega arith in
    rw (e, words-drop bytes (8 * r) h₁, words-drop bytes (8 * r + 4) h₂)

-- after the last record nothing is left
pub file-end : (bytes : List ℕ) (r : ℕ) → length bytes ≤ 8 * r → file_net (drop (8 * r) bytes) ≡ lent [] []
unfolding file_net words record_parents record_weights
file-end bytes r h = rw (drop_of_length-le bytes h)

columns-length : (xs : List ℕ) → (length (record_parents xs) ≡ length xs / 2) × (length (record_weights xs) ≡ length xs / 2)
unfolding record_parents record_weights
columns-length [] = (refl, refl)
columns-length (p ∷ []) = (refl, refl)
columns-length (p ∷ w ∷ xs) = let h = columns-length xs in (omega arith, omega arith)

-- a file of n records says a net of n vertices
pub file-lengths : (bytes : List ℕ) (n : ℕ) → length bytes ≡ 8 * n → (length (file_net bytes).parents ≡ n) × (length (file_net bytes).weights ≡ n)
unfolding file_net
file-lengths bytes n whole =
    let h = columns-length (words bytes) in
    let w = words-length bytes in
    (omega arith, omega arith)

-- A table that is filled from the front with the entries of another, all: what is left of it at r begins with u.
fill-turn : (xs : List ℕ) (r : ℕ) {left rest all : List ℕ} {u v : ℕ} → r < length xs → left ≡ u ∷ rest → v ≡ u → take r xs ++ left ≡ all → take (r + 1) (set xs r v) ++ rest ≡ all
fill-turn xs r {rest = rest} {v = v} h e f t =
    rw (add-one, take-suc-set xs r v h, append_snoc) (ap (λ (x : ℕ). take r xs ++ (x ∷ rest)) f ∙ ap (λ (ys : List ℕ). take r xs ++ ys) (sym e) ∙ t)

-- nothing is left
fill_end : (xs : List ℕ) (r : ℕ) {left all : List ℕ} → length xs ≤ r → left ≡ [] → take r xs ++ left ≡ all → xs ≡ all
fill_end xs r h e t = sym (take_all r xs h) ∙ sym (append-nil (take r xs)) ∙ ap (λ (ys : List ℕ). take r xs ++ ys) (sym e) ∙ t

-- A loop that reads, at record r of a file: the tables hold the records before it, and what is left are those from r on.
pub record Taken (bytes parents weights : List ℕ) (r : ℕ) : Type 0 where
  pub parents_so_far : take r parents ++ (file_net (drop (8 * r) bytes)).parents ≡ (file_net bytes).parents
  pub weights_so_far : take r weights ++ (file_net (drop (8 * r) bytes)).weights ≡ (file_net bytes).weights

module _ {bytes parents weights : List ℕ} {n r : ℕ} (whole : length bytes ≡ 8 * n) (ep : length parents ≡ n) (ew : length weights ≡ n) (t : Taken bytes parents weights r) where
  -- the record here goes into the tables
  pub taken-turn : {p w : ℕ} → r < n → p ≡ word_at bytes (8 * r) → w ≡ word_at bytes (8 * r + 4) → Taken bytes (set parents r p) (set weights r w) (r + 1)
  taken-turn h fp fw =
      let here = file-drop bytes r (omega arith) in
      record { parents_so_far = fill-turn parents r (omega arith) (ap (λ (net : Net). net.parents) here) fp t.parents_so_far; weights_so_far = fill-turn weights r (omega arith) (ap (λ (net : Net). net.weights) here) fw t.weights_so_far }

  -- at the end they hold all
  pub taken-end : n ≤ r → lent parents weights ≡ file_net bytes
  taken-end h =
      let none = file-end bytes r (omega arith) in
      ap₂ lent (fill_end parents r (omega arith) (ap (λ (net : Net). net.parents) none) t.parents_so_far) (fill_end weights r (omega arith) (ap (λ (net : Net). net.weights) none) t.weights_so_far)
