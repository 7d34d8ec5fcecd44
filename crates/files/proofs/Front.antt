-- The fronts of the files are refused for what the whole files are refused for, and files that are not refused are their own fronts.
-- Assumes nothing.
use mathlib.Core.Path.{◌≡◌, refl, sym, ap, ◌∙◌}
use mathlib.Core.Logic.{◌⊎◌, inl, inr, ⊎_elim, by_cases}
use mathlib.Core.Bool.{Bool, true, not, ◌||◌}
use mathlib.Core.List.{List, [], ◌∷◌}
use Prim.Native.Nat.{ℕ, ◌/◌, ◌%◌, ◌≤◌, ◌<◌}
use native.Mathlib.Decide.{ℕ_discrete, dec_lt}
use native.Mathlib.Omega.{arith}
use lib.Dec.{eqb, ltb}
use lib.ListN.{length, take}
use lib.Seq.{take_all, length-take-le}
use borrow.Author.Tests.{eq-eqb, ne_eqb, lt-ltb}
use Rattle.game.proofs.Bools.{or_left, or_right}
use Rattle.refusal.specs.Refusal.{given, first, wrong_length}
use Rattle.refusal.proofs.First.{pass, stop}
use Rattle.files.specs.Files.{Files, files, vertex_count, edge_count, vertex_capacity, edge_capacity, marks_front, ties_front, want_front, front}
use Rattle.files.specs.Refused.{too_many, part_record, not_records, file_refusal}
use Rattle.files.specs.Steps.{size_refusal}
use Rattle.files.proofs.Loading.{Sizes, sizes, size-stops}

-- the refusals of the lengths a, b and c of the files
by_size : (a b c : ℕ) → ℕ
by_size a b c =
    first
    (given (eqb (a / 4) 0) 1
    ∷ given (ltb vertex_capacity (a / 4) || ltb edge_capacity (b / 12)) 2
    ∷ given (not (eqb (a % 4) 0) || not (eqb (b % 12) 0) || not (eqb c 8)) 6
    ∷ [])

-- a length, and that of what is left of it by a cut at k: the same, or both are at least k
abbrev Cut : (k whole left : ℕ) → Type 0
Cut k whole left = (left ≡ whole) ⊎ ((k ≤ whole) × (k ≤ left))

-- too many vertices, or too many edges
many-vertices : (a b c : ℕ) → marks_front ≤ a → by_size a b c ≡ 2
unfolding by_size
many-vertices a b c h = pass 1 _ (ne_eqb (a / 4) 0 (omega arith)) ∙ stop 1 _ (or_left _ _ (lt-ltb vertex_capacity (a / 4) (omega arith)))

many-edges : (a b c b' c' : ℕ) → ties_front ≤ b → ties_front ≤ b' → by_size a b c ≡ by_size a b' c'
unfolding by_size
many-edges a b c b' c' h h' =
    by_cases (ℕ_discrete (a / 4) 0)
    (λ (z : a / 4 ≡ 0). stop 0 _ (eq-eqb (a / 4) 0 z) ∙ sym (stop 0 _ (eq-eqb (a / 4) 0 z)))
    (λ (d : a / 4 ≡ 0 → ⊥). pass 1 _ (ne_eqb (a / 4) 0 d) ∙ stop 1 _ (many b h) ∙ sym (pass 1 _ (ne_eqb (a / 4) 0 d) ∙ stop 1 _ (many b' h')))
  where
    many : (b : ℕ) → ties_front ≤ b → (ltb vertex_capacity (a / 4) || ltb edge_capacity (b / 12)) ≡ true
    many b h = or_right (ltb vertex_capacity (a / 4)) _ (lt-ltb edge_capacity (b / 12) (omega arith))

-- more than a record
long-want : (a b c c' : ℕ) → want_front ≤ c → want_front ≤ c' → by_size a b c ≡ by_size a b c'
unfolding by_size
long-want a b c c' h h' =
    ap
    (λ (t : Bool). first
    (given (eqb (a / 4) 0) 1
    ∷ given (ltb vertex_capacity (a / 4) || ltb edge_capacity (b / 12)) 2
    ∷ given (not (eqb (a % 4) 0) || not (eqb (b % 12) 0) || not t) 6
    ∷ []))
    (ne_eqb c 8 (omega arith) ∙ sym (ne_eqb c' 8 (omega arith)))

by-cut : {a b c a' b' c' : ℕ} → Cut marks_front a a' → Cut ties_front b b' → Cut want_front c c' → by_size a' b' c' ≡ by_size a b c
by-cut {a} {b} {c} {a'} {b'} {c'} m t w =
    ⊎_elim
    (λ e. ap (λ (a : ℕ). by_size a b' c') e ∙ ⊎_elim
    (λ e. ap (λ (b : ℕ). by_size a b c') e ∙ ⊎_elim (λ e. ap (λ (c : ℕ). by_size a b c) e) (λ l. long-want a b c' c l.1 l.0) w)
    (λ l. many-edges a b' c' b c l.1 l.0)
    t)
    (λ l. many-vertices a' b' c' l.1 ∙ sym (many-vertices a b c l.0))
    m

cut_at : (k : ℕ) (bytes : List ℕ) → Cut k (length bytes) (length (take k bytes))
cut_at k bytes =
    by_cases (dec_lt k (length bytes))
    (λ (h : k < length bytes). inr (omega arith, omega (arith, length-take-le k bytes (omega arith))))
    (λ (h : k < length bytes → ⊥). inl (ap length (take_all k bytes (omega arith))))

module _ (f : Files) where
  front-sizes : size_refusal (front f) ≡ size_refusal f
  unfolding size_refusal front by_size too_many not_records part_record wrong_length vertex_count edge_count
  front-sizes = by-cut (cut_at marks_front f.marks) (cut_at ties_front f.ties) (cut_at want_front f.want)

  pub front-own : size_refusal f ≡ 0 → front f ≡ f
  unfolding front
  front-own z =
      let s : Sizes f = sizes f z in
      λ i. files (take_all marks_front f.marks (omega (arith, s.vertices)) i) (take_all ties_front f.ties (omega (arith, s.edges)) i) (take_all want_front f.want (omega (arith, s.want)) i)

  pub front-refusal : file_refusal (front f) ≡ file_refusal f
  front-refusal =
      by_cases (ℕ_discrete (size_refusal f) 0)
      (λ (z : size_refusal f ≡ 0). ap file_refusal (front-own z))
      (λ (d : size_refusal f ≡ 0 → ⊥). sym (size-stops (front f) (sym front-sizes) d) ∙ size-stops f refl d)
