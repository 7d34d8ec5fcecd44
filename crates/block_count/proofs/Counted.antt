-- What the count of its bucket says of a vertex: its block count, and how many of its edges that takes, or what it waits for.
-- Assumes nothing.
use mathlib.Core.Path.{◌≡◌, refl, sym, ap, subst, ◌∙◌}
use mathlib.Core.Logic.{◌≢◌, inl, ⊎_elim, by_cases}
use mathlib.Core.Bool.{false}
use mathlib.Core.List.Memᴰ
use mathlib.Core.List.{List, [], ◌∷◌, ◌++◌, map, Memᴰ}
use Prim.Native.Nat.{ℕ, zero, suc, ◌+◌, ◌≤◌, ◌<◌}
use native.Mathlib.Nat.{le_refl}
use native.Mathlib.Decide.{ℕ_discrete}
use native.Mathlib.Omega.{arith}
use lib.ListN.{length, get_or, take, length-map}
use lib.Seq.{take_all}
use borrow.Author.Tests.{eq-eqb, ne_eqb}
use Rattle.game.specs.Table.{member}
use Rattle.game.specs.Edge.{Edge}
use Rattle.game.specs.Graph.{Proper}
use Rattle.bucket.specs.Filed.{lower_ends}
use Rattle.reach_slots.specs.Given.{lower_count}
use Rattle.block_count.specs.BlockCount.{different, blocks_at, block_count_of}
use Rattle.block_count.proofs.Blocks.{block_at}
use Rattle.block_count.specs.Taken.{taken_after, edges_taken_of}
use Rattle.block_count.specs.declared.counting.Known.{Known}
use Rattle.block_count.proofs.Coming.{waits-none}
use Rattle.block_count.specs.WaitingSteps.{unmet, waits}
use Rattle.block_count.specs.CountingSteps.{own_block, met_blocks, MetAt, CountedAt, known_at}
use Rattle.block_count.proofs.Different.{different-same, Full, full-within, full-different, different-full, full-met, fewer-open}
use Rattle.block_count.proofs.Taken.{take_in, Ends, taken-ends, ends-once, nothing-open}
use Rattle.block_count.proofs.Seen.{Seen, seen, seen-length, seen-down, seen-met, met-seen}
use Rattle.block_count.proofs.Waits.{code, Waiting, wait-taken}

map-take : (f : ℕ → ℕ) (i : ℕ) (xs : List ℕ) → map f (take i xs) ≡ take i (map f xs)
map-take f zero xs = refl
map-take f (suc i) [] = refl
map-take f (suc i) (x ∷ xs) = ap (λ (l : List ℕ). f x ∷ l) (map-take f i xs)

own-some : (w b : ℕ) → w ≢ 0 → own_block w b ≡ b ∷ []
unfolding own_block
own-some zero b n = absurd (n refl)
own-some (suc w) b n = refl

module _ {n : ℕ} (es : List Edge) (proper : Proper n es) (block : List ℕ) (y k : ℕ) (below : (u : ℕ) → u ≤ y → get_or block u 0 < k) where
  inside : get_or block y 0 < k
  inside = below y (le_refl y)

  -- how many edges lead up from y, the blocks of its edges, and of those that lead down
  w : ℕ
  w = lower_count es y

  bs : List ℕ
  bs = blocks_at block es y

  ds : List ℕ
  ds = map (λ (u : ℕ). get_or block u 0) (lower_ends es y)

  at_y : Seen block y es w bs ds
  unfolding w bs ds
  at_y = seen block y es proper

  open-first : Full k [] → ⊥
  open-first = nothing-open k (omega (arith, inside))

  -- the blocks of y's edges are below k
  at-below : {j : ℕ} → Memᴰ j bs → j < k
  unfolding bs
  at-below m = ⊎_elim (λ d. let (e, i, l, q) = d in rw q inside) (λ d. let (u, l, e, q) = d in rw q (below u (omega arith))) (block_at block es y m)

  -- where there is but one, the first edge meets it
  one-taken : k ≡ 1 → Full k bs → taken_after k [] bs ≡ 1
  unfolding taken_after
  one-taken o f = first bs (λ j m. at-below m) f
    where
      first : (l : List ℕ) → ((j : ℕ) → Memᴰ j l → j < k) → Full k l → taken_after k [] l ≡ 1
      first [] h f = absurd (open-first f)
      first (b ∷ l) h f = rw (full-met k (b ∷ []) (record { each = λ (j : ℕ) (i : j < k). Memᴰ.head (same j i (h b (Memᴰ.head refl))) })) refl
        where
          same : (j : ℕ) → j < k → b < k → j ≡ b
          same j i g = omega arith

  module _ {count read : ℕ} (m : MetAt k block y (lower_count es y) (lower_ends es y) count read) where
    -- the blocks that were met when i lower neighbours were read
    met-front : (i : ℕ) → met_blocks block y (lower_count es y) (take i (lower_ends es y)) ≡ own_block w (get_or block y 0) ++ take i ds
    unfolding met_blocks w ds
    met-front i = ap (λ (l : List ℕ). own_block (lower_count es y) (get_or block y 0) ++ l) (map-take (λ (u : ℕ). get_or block u 0) i (lower_ends es y))

    long : length ds ≡ length (lower_ends es y)
    unfolding ds
    long = length-map (lower_ends es y) (λ (u : ℕ). get_or block u 0)

    counted : count ≡ different k (own_block w (get_or block y 0) ++ take read ds)
    counted = m.counted ∙ ap (different k) (met-front read)

    -- if all were met
    module _ (all : count ≡ k) where
      front-full : Full k (own_block w (get_or block y 0) ++ take read ds)
      front-full = different-full k _ (sym counted ∙ all)

      front-open : (i : ℕ) → i < read → Full k (own_block w (get_or block y 0) ++ take i ds) → ⊥
      front-open i h = fewer-open k _ (subst (λ (l : List ℕ). different k l < k) (met-front i) (m.needed i h))

      whole : Full k bs
      whole =
          full-within
          (λ j i. met-seen block y at_y j (⊎_elim (λ l. Memᴰ.append_left {s = own_block w (get_or block y 0)} ds l) (λ r. Memᴰ.append_right (own_block w (get_or block y 0)) (take_in read ds r)) (Memᴰ.append_cases (own_block w (get_or block y 0)) i)))
          front-full

      -- no edge leads up: the bucket is all
      read_taken : w ≡ 0 → read ≡ taken_after k [] bs
      unfolding own_block
      read_taken e = ends-once down_ends (rw (seen-down block y at_y e) (taken-ends k [] ds open-first))
        where
          down_ends : Ends k [] ds read
          down_ends = record { within = omega (arith, m.within, long); before = λ i h f. front-open i h (rw e f); closed = inl (rw e at front-full) }

      -- some does: the vertex waits
      wait : read < unmet → w ≢ 0 → waits block y (read + unmet) es ≡ taken_after k [] bs
      unfolding code member
      wait h d = wait-taken block y k inside at_y {met = []} {o = false} {r = read} waits-so
        where
          waits-so : Waiting block y k inside [] ds false read
          waits-so = record {
            own_met = refl;
            small = h;
            rest = rw (own-some w (get_or block y 0) d) at front-full;
            no_fewer = λ i l f. front-open i l (rw (own-some w (get_or block y 0) d) f);
            some = open-first;
          }

    -- if not
    module _ (fewer : count ≢ k) where
      all_read : take read ds ≡ ds
      all_read = take_all read ds (by_cases (ℕ_discrete read (length (lower_ends es y))) (λ (e : read ≡ length (lower_ends es y)). omega (arith, long)) (λ d. absurd (fewer (m.ended (short d)))))
        where
          short : (read ≡ length (lower_ends es y) → ⊥) → read < length (lower_ends es y)
          short d = omega (arith, m.within)

      count-all : count ≡ different k bs
      count-all =
          counted ∙ ap (λ (l : List ℕ). different k (own_block w (get_or block y 0) ++ l)) all_read
          ∙ different-same k (own_block w (get_or block y 0) ++ ds) bs (met-seen block y at_y) (seen-met block y at_y)

      taken-all : w + length (lower_ends es y) ≡ taken_after k [] bs
      taken-all =
          ⊎_elim (λ f. absurd (fewer (count-all ∙ full-different k bs (full-within (λ j i. take_in (taken_after k [] bs) bs i) f))))
          (λ (e : taken_after k [] bs ≡ length bs). omega (arith, seen-length block y at_y, long))
          (taken-ends k [] bs open-first).closed

  module _ {count taken pending : ℕ} (c : CountedAt k block y (lower_count es y) (lower_ends es y) count taken pending) where
    pub counted-blocks : count ≡ block_count_of k block es y
    unfolding block_count_of bs
    counted-blocks =
        by_cases (ℕ_discrete count k) (λ (a : count ≡ k). a ∙ sym (full-different k bs (whole c.met a))) (λ (f : count ≢ k). count-all c.met f)

    pub counted-taken : c.read < unmet → taken + waits block y pending es ≡ edges_taken_of k block es y
    unfolding edges_taken_of known_at bs w
    counted-taken h = ap sum c.so_known ∙ by_cases (ℕ_discrete count k) met_all (λ (f : count ≢ k). rw (ne_eqb count k f) (omega (arith, taken-all c.met f, waits-none block y es)))
      where
        sum : Known → ℕ
        sum q = q.taken + waits block y q.pending es

        met_all : count ≡ k → sum (known_at k (lower_count es y) (length (lower_ends es y)) count c.read) ≡ taken_after k [] (blocks_at block es y)
        met_all a =
            rw (eq-eqb count k a)
            (by_cases (ℕ_discrete k 1)
            (λ (o : k ≡ 1). rw (eq-eqb k 1 o) (omega (arith, one-taken o (whole c.met a), waits-none block y es)))
            (λ (m : k ≢ 1).
            rw (ne_eqb k 1 m)
            (by_cases (ℕ_discrete (lower_count es y) 0)
            (λ (e : lower_count es y ≡ 0). rw (eq-eqb (lower_count es y) 0 e) (omega (arith, read_taken c.met a e, waits-none block y es)))
            (λ (d : lower_count es y ≢ 0). rw (ne_eqb (lower_count es y) 0 d) (omega (arith, wait c.met a h d))))))
