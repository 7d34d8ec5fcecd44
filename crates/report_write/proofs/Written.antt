-- What the steps of writing a report leave, put together.
-- Assumes nothing.
use mathlib.Core.Path.{◌≡◌, sym, ap, subst, ◌∙◌}
use mathlib.Core.Bool.{false}
use mathlib.Core.List.{List}
use Prim.Native.Nat.{ℕ}
use native.Mathlib.Omega.{arith}
use lib.ListN.{length, get_or, replicate}
use Rattle.game.specs.Table.{tabulate, sum}
use Rattle.game.specs.Edge.{Edge}
use Rattle.game.specs.Net.{Net, net, reach}
use Rattle.game.proofs.Tables.{tabulate-length}
use Rattle.game.specs.Graph.{Proper}
use Rattle.sorting.specs.Sorted.{with_key}
use Rattle.bucket.specs.Ends.{end_of, ending}
use Rattle.bucket.specs.Filed.{Filed}
use Rattle.bucket.specs.CountingSteps.{LowerCountable}
use Rattle.growth.specs.Work.{Work, work_of, zeros, cleared}
use Rattle.divide.specs.Divide.{DivisionTables, division_of, divided}
use Rattle.reach_slots.specs.Given.{Given, lower_count, lower_counts}
use Rattle.cut.specs.Cut.{top}
use Rattle.divide.specs.Steps.{Fitting}
use Rattle.divide.proofs.Laws.{block-loads-long, block-loads-sum}
use Rattle.share.specs.Share.{even_share}
use Rattle.block_count.specs.BlockCount.{edge_blocks_of, block_count_of}
use Rattle.cost.specs.Figures.{bound, bound_of, volume_of, share_of, totals, totals_of}
use Rattle.cost.specs.Steps.{ReportTables, summed}
use Rattle.cost.specs.declared.Totals.{Totals}
use Rattle.block_count.specs.Taken.{edges_taken_of}
use Rattle.block_count.specs.CountingSteps.{Countable, Writes}
use Rattle.report_write.specs.Written.{written, figures}
use Rattle.report_write.specs.Steps.{Reportable, Spread, ReportWritten}
use Rattle.cost.proofs.Divided.{cuts, packed, divided-top, divided-block, block-below}
use Rattle.cost.proofs.Summed.{bound-by, volume-by}

-- tables fit as long as their lengths are kept
pub fitting-kept : {n : ℕ} {c t b l : List ℕ} → Fitting n (division_of c t b l) → {c' t' b' : List ℕ}
    → length c' ≡ length c → length t' ≡ length t → length b' ≡ length b → Fitting n (division_of c' t' b' l)
fitting-kept f e g h = record { carried = e ∙ f.carried; top = g ∙ f.top; block = h ∙ f.block; some = f.some; few = f.few }

-- the edges, as they are filed, can be counted by their lower end; then there is a count for each vertex
module _ {p w bc en lo eb re : List ℕ} {es : List Edge} {B : ℕ} {was : DivisionTables} (q : Reportable p w B es en lo was eb re bc) where
  ends-long : length en ≡ length p
  ends-long = q.filed.sorted.long

  filed-so : Filed (length en) es en lo
  filed-so = subst (λ (n : ℕ). Filed n es en lo) (sym ends-long) q.filed

  pub lower-countable : {ta : List ℕ} → length ta ≡ length p → LowerCountable es en lo ta
  lower-countable e = record { filed = filed-so; width = e ∙ sym ends-long; some = omega (arith, ends-long, q.some); few_edges = q.own.few }

  pub lower-counted : {ta : List ℕ} → ((es : List Edge) → Filed (length en) es en lo → ta ≡ tabulate (length en) (ending false es)) → ta ≡ lower_counts (length p) es
  unfolding lower_counts lower_count with_key end_of
  lower-counted counted = counted es filed-so ∙ ap (λ (n : ℕ). lower_counts n es) ends-long

  -- what the reaches are counted from
  pub own-counts : {ta : List ℕ} → ta ≡ lower_counts (length p) es → Given p ta es
  own-counts e = subst (λ (counts : List ℕ). Given p counts es) (sym e) q.own

-- once the net is divided and its reaches are written
module _ {p w c t b l eb re bc en lo : List ℕ} {es : List Edge} {B : ℕ} (q : Reportable p w B es en lo (division_of c t b l) eb re bc) {c' t' b' l' re' : List ℕ}
    (s : Spread p w B (length l) es (division_of c' t' b' l') re') where
  of : Net
  of = net p w

  k : ℕ
  k = length l

  block-is : b' ≡ (divided of B k).block
  unfolding of k
  block-is = ap (λ (d : DivisionTables). d.block) s.divided_so

  top-is : t' ≡ (divided of B k).top
  unfolding of k
  top-is = ap (λ (d : DivisionTables). d.top) s.divided_so

  block-long : length b' ≡ length p
  unfolding of
  block-long = ap length (block-is ∙ divided-block of B k) ∙ tabulate-length (length p) (λ x. packed of B k (top p (cuts of B k) x))

  top-long : length t' ≡ length p
  unfolding of
  top-long = ap length (top-is ∙ divided-top of B k) ∙ tabulate-length (length p) (top p (cuts of B k))

  reach-long : length re' ≡ length p
  reach-long = ap length s.reached ∙ tabulate-length (length p) (reach p es)

  pub loads-long : length l' ≡ length l
  loads-long = ap (λ (d : DivisionTables). length d.block_loads) s.divided_so ∙ block-loads-long q.divisible (length l) q.division.some

  pub block-proper : Proper (length b') es
  block-proper = subst (λ (n : ℕ). Proper n es) (sym block-long) q.own.proper

  pub block-countable : {bc' ta ju : List ℕ} → length bc' ≡ length bc → ta ≡ lower_counts (length p) es → length ju ≡ length p → Countable es ta b' (length l') en lo bc' ju
  unfolding of k
  block-countable f g h = record {
    few = omega (arith, block-long, q.own.vertices);
    few_edges = q.own.few;
    filed = subst (λ (n : ℕ). Filed n es en lo) (sym block-long) q.filed;
    counted = g ∙ ap (λ (n : ℕ). lower_counts n es) (sym block-long);
    some = omega (arith, loads-long, q.division.some);
    small = omega (arith, loads-long, q.division.few);
    blocks = λ x i. omega (arith, loads-long, ap (λ (t : List ℕ). get_or t x 0) block-is, block-below of B k q.division.some x (omega (arith, block-long)));
    counts_long = f ∙ q.counts ∙ sym block-long;
    pending_long = h ∙ sym block-long;
  }

  -- what the blocks carry together: the total
  loads-total : sum l' ≡ sum w
  loads-total = ap (λ (d : DivisionTables). sum d.block_loads) s.divided_so ∙ block-loads-sum q.divisible (length l) q.division.some

  pub summable : {bc'' : List ℕ} → length bc'' ≡ length p → ReportTables p t' re' bc'' l'
  summable f = record {
    few = q.own.vertices;
    tops = top-long;
    reaches = reach-long;
    counts = f;
    some = omega (arith, loads-long, q.division.some);
    few_blocks = omega (arith, loads-long, q.division.few);
    small = omega (arith, loads-total, q.divisible.small);
  }

  -- all that was written, and the answer
  pub all-answered : {eb'' bc'' ta'' jump : List ℕ} (jump' : List ℕ) {r : Totals} {work : Work} → eb'' ≡ edge_blocks_of b' es → Writes es b' (length l') bc'' ta''
      → length jump' ≡ length jump → work ≡ cleared (work_of en jump' lo) → r ≡ summed p t' re' bc'' l'
      → ReportWritten (net p w) B (length l) es (work_of en jump lo) r (written (division_of c' t' b' l') eb'' re' bc'' ta'') work
  unfolding figures totals_of bound_of volume_of share_of summed of k cleared zeros
  all-answered {eb''} {bc''} {ta''} jump' f g j z a = record {
    answers = a ∙ (λ i. totals
        ((bound-by p es t' s.reached ∙ ap (bound p es) top-is) i)
        (volume-by (length p) (length l) (divided of B k).block es counted i)
        (even_share (loads-total i) (loads-long i)));
    writes = λ i. written (s.divided_so i) ((f ∙ ap (λ (t : List ℕ). edge_blocks_of t es) block-is) i) (s.reached i) (counted i) (took i);
    clear = z ∙ ap (λ (n : ℕ). work_of (zeros en) (replicate n 0) (zeros lo)) j;
  }
    where
      counted : bc'' ≡ tabulate (length p) (block_count_of (length l) (divided of B k).block es)
      counted = g.counted ∙ (λ i. tabulate (block-long i) (block_count_of (loads-long i) (block-is i) es))

      took : ta'' ≡ tabulate (length p) (edges_taken_of (length l) (divided of B k).block es)
      took = g.took ∙ (λ i. tabulate (block-long i) (edges_taken_of (loads-long i) (block-is i) es))
