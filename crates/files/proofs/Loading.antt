-- Loading the files: their lengths decide first, then what they say.
-- Assumes nothing.
use mathlib.Core.Path.{◌≡◌, refl, sym, ap, ◌∙◌}
use mathlib.Core.Bool.{false}
use mathlib.Core.List.{List, [], ◌∷◌, ◌++◌}
use Prim.Native.Nat.{ℕ, zero, suc, ◌/◌, ◌%◌, ◌≤◌, ◌<◌}
use native.Mathlib.Nat.{pos_of_ne-zero}
use native.Mathlib.Omega.{arith}
use lib.Dec.{eqb}
use lib.ListN.{length, take}
use lib.Seq.{take_at, length-take-le}
use borrow.Author.Tests.{eqb-true, eqb-false, ltb-false, not-false}
use Rattle.game.specs.Edge.{ties}
use Rattle.game.proofs.Bools.{or-neither}
use Rattle.refusal.specs.Refusal.{given, first, first_fault}
use Rattle.refusal.proofs.First.{first-none, first-pass, first-end, given-none, length-right}
use Rattle.order.specs.Order.{bad_order}
use Rattle.refusal.specs.DivisionLimits.{bad_limits}
use Rattle.words.proofs.Bytes.{words-length}
use Rattle.files.specs.Files.{Files, vertex_count, edge_count, order, edge_list, limit, blocks, vertex_capacity, edge_capacity}
use Rattle.files.specs.Refused.{too_many, part_record, not_records, file_refusal}
use Rattle.files.specs.Steps.{size_refusal, content_refusal, Sized, Decided, FilesLoaded, number_capacity}

-- files whose lengths are not refused
pub record Sizes (f : Files) : Type 0 where
  pub some : 0 < length f.marks / 4
  pub vertices : length f.marks / 4 ≤ vertex_capacity
  pub edges : length f.ties / 12 ≤ edge_capacity
  pub marks : length f.marks % 4 ≡ 0
  pub ties : length f.ties % 12 ≡ 0
  pub want : length f.want ≡ 8

whole : (size : ℕ) (bytes : List ℕ) → part_record size bytes ≡ false → length bytes % size ≡ 0
unfolding part_record
whole size bytes e = eqb-true (length bytes % size) 0 (not-false (eqb (length bytes % size) 0) e)

pub sizes : (f : Files) → size_refusal f ≡ 0 → Sizes f
unfolding size_refusal vertex_count edge_count too_many not_records
sizes f z =
    let a = first-none _ _ z in
    let b = first-none _ _ a.1 in
    let c = first-none _ _ b.1 in
    let many = or-neither _ _ (given-none _ 1 b.0) in
    let parts = or-neither _ _ (given-none _ 5 c.0) in
    let files = or-neither _ _ parts.0 in
    record {
      some = pos_of_ne-zero (eqb-false (length f.marks / 4) 0 (given-none _ 0 a.0));
      vertices = ltb-false vertex_capacity _ many.0;
      edges = ltb-false edge_capacity _ many.1;
      marks = whole 4 f.marks files.0;
      ties = whole 12 f.ties files.1;
      want = length-right _ _ parts.1;
    }

-- files that are not refused have no length that is
pub sizes-pass : (f : Files) → file_refusal f ≡ 0 → size_refusal f ≡ 0
unfolding file_refusal size_refusal
sizes-pass f z =
    let a = first-none _ _ z in
    let b = first-none _ _ a.1 in
    let c = first-none _ _ b.1 in
    first-pass _ _ a.0 ∙ first-pass _ _ b.0 ∙ first-pass _ _ c.0 ∙ first-end

-- refusals before others: where none of them is given, the others decide; where one is, they do not
first_on : (ks ms : List ℕ) → first ks ≡ 0 → first (ks ++ ms) ≡ first ms
unfolding first
first_on [] ms z = refl
first_on (zero ∷ ks) ms z = first_on ks ms z
first_on (suc k ∷ ks) ms z = absurd (omega arith)

first_off : (ks ms : List ℕ) → (first ks ≡ 0 → ⊥) → first (ks ++ ms) ≡ first ks
unfolding first
first_off [] ms d = absurd (d refl)
first_off (zero ∷ ks) ms d = first_off ks ms d
first_off (suc k ∷ ks) ms d = refl

module _ (f : Files) where
  early : List ℕ
  early = given (eqb (vertex_count f) 0) 1 ∷ given (too_many f) 2 ∷ given (not_records f) 6 ∷ []

  late : ℕ → ℕ
  late n = first (given (bad_order (order f)) 3 ∷ given (bad_limits (limit f) (blocks f)) 8 ∷ first_fault n (ties (edge_list f)) ∷ [])

  -- refused for a length
  pub size-stops : {code : ℕ} → code ≡ size_refusal f → (code ≡ 0 → ⊥) → code ≡ file_refusal f
  unfolding size_refusal file_refusal early
  size-stops e d = e ∙ sym (first_off early _ (λ z. d (e ∙ z)))

  -- not refused for a length
  pub size-passes : {code : ℕ} → size_refusal f ≡ 0 → code ≡ content_refusal (order f) (edge_list f) (limit f) (blocks f) → code ≡ file_refusal f
  unfolding size_refusal file_refusal content_refusal early late vertex_count order
  size-passes z e = e ∙ ap late (words-length f.marks) ∙ sym (first_on early _ z)

  pub decided : {o xs : List ℕ} {B k code : ℕ} → o ≡ order f → xs ≡ edge_list f → B ≡ limit f → k ≡ blocks f → code ≡ content_refusal o xs B k → Decided f o xs code
  decided eo ex e_b ek e = record { ordered = eo; listed = ex; content = e ∙ (λ i. content_refusal (eo i) (ex i) (e_b i) (ek i)) }

  -- room in the tables, lent at their full length
  pub order-room : (room : ℕ) → size_refusal f ≡ 0 → room ≡ vertex_capacity → length f.marks / 4 ≤ room
  order-room room z e = omega (arith, (sizes f z).vertices)

  pub edge-room : (room : ℕ) → size_refusal f ≡ 0 → room ≡ number_capacity → length f.ties / 4 ≤ room
  edge-room room z e = omega (arith, (sizes f z).edges, (sizes f z).ties)

  pub sized : (o xs : List ℕ) → size_refusal f ≡ 0 → length o ≡ vertex_capacity → length xs ≡ number_capacity
      → Sized f (take (length f.marks / 4) o) (take (length f.ties / 4) xs)
  sized o xs z lo lx = record { passed = z; vertices = length-take-le _ o (order-room (length o) z lo); numbers = length-take-le _ xs (edge-room (length xs) z lx) }

  -- the two ways in which loading ends
  pub loaded-not : {o xs : List ℕ} {code : ℕ} → code ≡ size_refusal f → (code ≡ 0 → ⊥) → FilesLoaded f o xs code
  loaded-not e d = record { refusal = size-stops e d; ordered = λ z. absurd (d z); listed = λ z. absurd (d z) }

  pub loaded : {o xs : List ℕ} {code : ℕ} (rest_o rest_x : List ℕ) → size_refusal f ≡ 0 → length o ≡ length f.marks / 4 → length xs ≡ length f.ties / 4
      → Decided f o xs code → FilesLoaded f (o ++ rest_o) (xs ++ rest_x) code
  loaded {o} {xs} rest_o rest_x z lo lx d =
      record {
        refusal = size-passes z d.content;
        ordered = λ _. take_at o rest_o _ lo ∙ d.ordered;
        listed = λ _. take_at xs rest_x _ lx ∙ d.listed;
      }
