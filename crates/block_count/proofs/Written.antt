-- The block counts of a net and the edges that they take, from its edges as they are filed.
-- Assumes nothing.
use mathlib.Core.Path.{◌≡◌, refl, sym, ap, subst, ◌∙◌}
use mathlib.Core.Logic.{by_cases}
use mathlib.Core.Bool.{true, false}
use mathlib.Core.List.{List, [], ◌∷◌}
use Prim.Native.Nat.{ℕ, zero, suc, ◌+◌, ◌≤◌, ◌<◌}
use native.Mathlib.Decide.{dec_lt}
use native.Mathlib.Omega.{arith}
use lib.ListN.{length, length-map, get_or, take, replicate, length-replicate, get_or-replicate, get_or-eq_default}
use Rattle.game.specs.Edge.{Edge}
use Rattle.game.proofs.Tables.{tabulate-length, tabulate-entry, tabulate-unique}
use Rattle.bucket.specs.Ends.{end_of}
use Rattle.bucket.specs.Filed.{lower_ends}
use Rattle.reach_slots.specs.Given.{lower_count, lower_counts}
use Rattle.bucket.proofs.Reading.{filed-consecutive, filed-inside}
use Rattle.sorting.proofs.Counts.{count-le}
use Rattle.sorting.proofs.Keys.{key-le, below-le}
use Rattle.sorting.proofs.Values.{values_length}
use Rattle.refusal.specs.DivisionLimits.{max_blocks}
use Rattle.block_count.specs.BlockCount.{blocks_at, block_count_of}
use Rattle.block_count.specs.Taken.{edges_taken_of}
use Rattle.block_count.specs.WaitingSteps.{waits, Sweepable, Swept}
use Rattle.block_count.specs.CountingSteps.{Fresh, CountedAt, Bucketed, Counted, Countable, Writes}
use Rattle.block_count.proofs.Taken.{taken-ends, nothing-open}
use Rattle.block_count.proofs.Seen.{seen, seen-length}
use Rattle.block_count.proofs.Counted.{counted-blocks, counted-taken}

-- the front of a table of zeros
zeros-front : (m n : ℕ) → m ≤ n → take {A = ℕ} m (replicate n 0) ≡ replicate m 0
zeros-front zero n h = refl
zeros-front (suc m) zero h = absurd (omega arith)
zeros-front (suc m) (suc n) h = ap (λ (l : List ℕ). 0 ∷ l) (zeros-front m n (omega arith))

-- stamps that are all 0 are older than any
fresh-zeros : (k : ℕ) → Fresh (replicate k 0) 1
fresh-zeros k = record { older = λ j. by_cases (dec_lt j k) (λ h. omega (arith, get_or-replicate {A = ℕ} k j 0 0 h)) (λ (h : j < k → ⊥). omega (arith, get_or-eq_default {A = ℕ} (replicate k 0) 0 {n = j} (omega (arith, length-replicate {A = ℕ} k 0)))) }

module _ {es : List Edge} {upward block : List ℕ} {k : ℕ} {ends lower counts pending : List ℕ} (c : Countable es upward block k ends lower counts pending) where
  long : length ends ≡ length block
  long = c.filed.sorted.long

  upward-long : length upward ≡ length ends
  unfolding lower_counts
  upward-long = ap length c.counted ∙ tabulate-length (length block) (lower_count es) ∙ sym long

  upward-is : (y : ℕ) → y < length block → get_or upward y 0 ≡ lower_count es y
  unfolding lower_counts
  upward-is y h = ap (λ (u : List ℕ). get_or u y 0) c.counted ∙ tabulate-entry (length block) (lower_count es) y 0 h

  few-upward : (y : ℕ) → lower_count es y ≤ length es
  unfolding lower_count
  few-upward y = count-le _ es

  few-lower : (y : ℕ) → length (lower_ends es y) ≤ length es
  few-lower y = omega (arith, values_length (end_of true) (end_of false) es y, key-le (end_of true) es y)

  -- the count can begin
  pub count-ready : {stamps : List ℕ} → stamps ≡ take k (replicate max_blocks 0) → Bucketed ends lower upward block k counts pending stamps
  count-ready {stamps} q = record {
    buckets = filed-consecutive c.filed c.few;
    neighbours = λ y i h l. omega (arith, filed-inside c.filed (y + 1) i (omega (arith, long)) (omega (arith, c.filed.sorted.end_at y (omega (arith, long)))), long);
    short = λ y h. omega (arith, c.filed.sorted.end_at y (omega (arith, long)), below-le (end_of true) (y + 1) es, c.few_edges);
    counted = upward-long;
    few_upward = λ y h. omega (arith, upward-is y (omega (arith, long)), few-upward y, c.few_edges);
    blocked = sym long;
    blocks = λ x h. c.blocks x (omega (arith, long));
    counts_long = c.counts_long ∙ sym long;
    pending_long = c.pending_long ∙ sym long;
    all = ap length s ∙ length-replicate {A = ℕ} k 0;
    small = c.small;
    fresh = rw s (fresh-zeros k);
  }
    where
      s : stamps ≡ replicate k 0
      s = q ∙ zeros-front k max_blocks c.small

  -- when the buckets are counted
  module _ {counts' taken' pending' : List ℕ} (b : Counted k ends lower upward block counts' taken' pending') where
    at : (y : ℕ) → y < length block → CountedAt k block y (lower_count es y) (lower_ends es y) (get_or counts' y 0) (get_or taken' y 0) (get_or pending' y 0)
    at y h =
        subst (λ (w : ℕ). CountedAt k block y w (lower_ends es y) (get_or counts' y 0) (get_or taken' y 0) (get_or pending' y 0)) (upward-is y h)
        (subst (λ (l : List ℕ). CountedAt k block y (get_or upward y 0) l (get_or counts' y 0) (get_or taken' y 0) (get_or pending' y 0)) (c.filed.sorted.bucket y h)
        (b.each y (omega (arith, long))))

    takes : (y : ℕ) → y < length block → get_or taken' y 0 + waits block y (get_or pending' y 0) es ≡ edges_taken_of k block es y
    takes y h = counted-taken es c.filed.proper block y k (λ u l. c.blocks u (omega arith)) (at y h) (omega (arith, (at y h).met.within, few-lower y, c.few_edges))

    -- no vertex takes more edges than there are
    few-taken : (y : ℕ) → y < length block → edges_taken_of k block es y ≤ length es + length es
    unfolding edges_taken_of
    few-taken y h =
        omega (
          arith,
          (taken-ends k [] (blocks_at block es y) (nothing-open k c.some)).within,
          seen-length block y (seen block y es c.filed.proper),
          length-map (lower_ends es y) (λ (u : ℕ). get_or block u 0),
          few-upward y,
          few-lower y,
        )

    pub sweep-ready : length taken' ≡ length upward → length pending' ≡ length pending → Sweepable es block pending' taken'
    sweep-ready l m = record {
      few = c.few;
      proper = c.filed.proper;
      pending_long = m ∙ c.pending_long;
      taken_long = l ∙ upward-long ∙ long;
      small = λ y h. omega (arith, takes y h, few-taken y h, c.few_edges);
    }

    pub all-written : length counts' ≡ length counts → {taken'' : List ℕ} → length taken'' ≡ length upward → Swept es block pending' taken' taken'' → Writes es block k counts' taken''
    all-written l {taken''} m s = record {
      counted =
          tabulate-unique (length block) (block_count_of k block es) counts' 0 (l ∙ c.counts_long)
          (λ y h. counted-blocks es c.filed.proper block y k (λ u l. c.blocks u (omega arith)) (at y h));
      took = tabulate-unique (length block) (edges_taken_of k block es) taken'' 0 (m ∙ upward-long ∙ long) (λ y h. s.each y h ∙ takes y h);
    }
