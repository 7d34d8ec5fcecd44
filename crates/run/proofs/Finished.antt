-- The end of a run: what it has written is its text.
-- Assumes nothing.
use mathlib.Core.Path.{◌≡◌, sym, ap, ◌∙◌}
use mathlib.Core.Bool.{false}
use mathlib.Core.List.{List, [], ◌∷◌}
use Prim.Native.Nat.{ℕ, ◌/◌, ◌≤◌}
use native.Mathlib.Omega.{arith}
use lib.ListN.{length, take, drop, replicate, length-replicate}
use lib.Seq.{length-take-le}
use Rattle.game.specs.Edge.{ties}
use Rattle.game.specs.Net.{net_of}
use Rattle.game.proofs.Edges.{edges-length}
use Rattle.refusal.specs.Refusal.{given, first, first_fault}
use Rattle.refusal.proofs.First.{first-none, first-pass, first-stop, first-last, given-none, whole-list, unless-refused}
use Rattle.words.specs.Word.{words}
use Rattle.words.proofs.Bytes.{words-length}
use Rattle.order.specs.Order.{bad_order}
use Rattle.relabel.specs.Relabel.{relabelled}
use Rattle.refusal.specs.DivisionLimits.{bad_limits, too_heavy}
use Rattle.decimal.specs.Put.{PutText}
use Rattle.decimal.proofs.Runs.{put_front}
use Rattle.lines.specs.Lines.{refused_text}
use Rattle.files.specs.Files.{Files, vertex_count, order, edge_list, limit, blocks, vertex_capacity}
use Rattle.files.specs.Refused.{file_refusal}
use Rattle.files.specs.Steps.{FilesLoaded, number_capacity}
use Rattle.files.proofs.Loading.{Sizes, sizes, sizes-pass}
use Rattle.run.specs.Run.{ranked_ties, run_net, run_refusal}
use Rattle.run_report.specs.Text.{report_text, decided_text}
use Rattle.run.specs.Text.{run_text}
use Rattle.run_report.specs.Steps.{Runnable, net_text}

module _ (f : Files) where
  as_long : length (order f) ≡ vertex_count f
  unfolding order vertex_count
  as_long = words-length f.marks

  -- files that are not refused
  module _ (z : file_refusal f ≡ 0) where
    -- what they say
    said : (bad_order (order f) ≡ false) × (bad_limits (limit f) (blocks f) ≡ false) × (first_fault (vertex_count f) (ties (edge_list f)) ≡ 0)
    unfolding file_refusal
    said =
        let a = first-none _ _ z in
        let b = first-none _ _ a.1 in
        let c = first-none _ _ b.1 in
        let d = first-none _ _ c.1 in
        let e = first-none _ _ d.1 in
        let g = first-none _ _ e.1 in
        (given-none _ 2 d.0, given-none _ 7 e.0, g.0)

    pub good-limits : bad_limits (limit f) (blocks f) ≡ false
    good-limits = said.1

    pub runnable : Runnable (order f) (edge_list f)
    unfolding order edge_list vertex_count
    runnable =
        let s : Sizes f = sizes f (sizes-pass f z) in
        let n : length (words f.marks) ≡ length f.marks / 4 = words-length f.marks in
        let m : length (words f.ties) ≡ length f.ties / 4 = words-length f.ties in
        record {
          some = omega (arith, s.some, n);
          vertices = omega (arith, s.vertices, n);
          few = omega (arith, s.edges, s.ties, m, edges-length (words f.ties));
          all = whole-list (words f.ties) (omega (arith, s.ties, m));
          good = said.0;
          faultless = ap (λ (k : ℕ). first_fault k (ties (words f.ties))) n ∙ said.2;
        }

    -- only 22 is left
    accepted-text : net_text (order f) (ranked_ties f) (limit f) (blocks f) ≡ run_text f
    unfolding net_text run_text run_refusal run_net
    accepted-text =
        ap (λ (n : ℕ). text (given (too_heavy (limit f) (net_of n (ranked_ties f)).weights) 22)) as_long
        ∙ ap text (sym (first-pass _ _ z ∙ first-last _))
      where
        text : ℕ → List ℕ
        text code = decided_text code (report_text (order f) (ranked_ties f) (limit f) (blocks f))

  -- files that are refused
  pub refused-text : {code : ℕ} → code ≡ file_refusal f → (code ≡ 0 → ⊥) → refused_text code ≡ run_text f
  unfolding run_text decided_text run_refusal
  refused-text {code} e d =
      ap refused_text is ∙ sym (unless-refused _ (refused_text _) _ (λ z. d (is ∙ z)))
    where
      is : code ≡ first (file_refusal f ∷ given (too_heavy (limit f) (run_net f).weights) 22 ∷ [])
      is = e ∙ sym (first-stop (file_refusal f) _ (λ z. d (e ∙ z)))

-- the text is in the table, up to `end`, and the rest of the table is as it was
abbrev Finished : Files → (was now : List ℕ) → ℕ → Type 0
Finished f was now end = (take end now ≡ run_text f) × ((drop end now ≡ drop end was) × ((end ≤ length now) × (end ≡ length (take end now))))

finished : (f : Files) {printed was now : List ℕ} {end : ℕ} → printed ≡ run_text f → PutText was 0 printed now end
    → Finished f was now end
finished f e p = let q = put_front p in (q.0 ∙ e, (q.1, (q.3, q.2 ∙ ap length (sym q.0))))

module _ {f : Files} {o xs : List ℕ} {code : ℕ} (l : FilesLoaded f o xs code) where
  pub ends-refused : {was now : List ℕ} {end : ℕ} → (code ≡ 0 → ⊥) → PutText was 0 (refused_text code) now end → Finished f was now end
  ends-refused d p = finished f (refused-text f l.refusal d) p

  module _ (z : code ≡ 0) where
    passed : file_refusal f ≡ 0
    passed = sym l.refusal ∙ z

    pub sizes-known : Sizes f
    sizes-known = sizes f (sizes-pass f passed)

    pub parts-runnable : Runnable (take (length f.marks / 4) o) (take (length f.ties / 4) xs)
    parts-runnable = rw (l.ordered z, l.listed z) (runnable f passed)

    pub limits-good : {B k : ℕ} → B ≡ limit f → k ≡ blocks f → bad_limits B k ≡ false
    limits-good e_b ek = (λ i. bad_limits (e_b i) (ek i)) ∙ good-limits f passed

    -- the parts of the tables that they take
    pub order-fits : length o ≡ length {A = ℕ} (replicate vertex_capacity 0) → length f.marks / 4 ≤ length o
    order-fits e = omega (arith, sizes-known.vertices, e, length-replicate {A = ℕ} vertex_capacity 0)

    pub order-counted : length o ≡ length {A = ℕ} (replicate vertex_capacity 0) → length f.marks / 4 ≡ length (take (length f.marks / 4) o)
    order-counted e = sym (length-take-le _ o (order-fits e))

    pub edges_fit : length xs ≡ length {A = ℕ} (replicate number_capacity 0) → length f.ties / 4 ≤ length xs
    edges_fit e = omega (arith, sizes-known.edges, sizes-known.ties, e, length-replicate {A = ℕ} number_capacity 0)

    pub edges-counted : length xs ≡ length {A = ℕ} (replicate number_capacity 0) → length f.ties / 4 ≡ length (take (length f.ties / 4) xs)
    edges-counted e = sym (length-take-le _ xs (edges_fit e))

    pub ends-accepted : {was now : List ℕ} {B k end : ℕ} → B ≡ limit f → k ≡ blocks f
        → PutText was 0 (net_text (take (length f.marks / 4) o) (ties (relabelled (take (length f.marks / 4) o) (take (length f.ties / 4) xs))) B k) now end
        → Finished f was now end
    unfolding ranked_ties
    ends-accepted e_b ek p =
        finished f ((λ i. net_text (l.ordered z i) (ties (relabelled (l.ordered z i) (l.listed z i))) (e_b i) (ek i)) ∙ accepted-text f passed) p
