-- How many edges a count takes: what is said of that number, and that it is the only one.
-- Assumes nothing.
use mathlib.Core.Path.{◌≡◌, refl, sym, ap, ◌∙◌}
use mathlib.Core.Logic.{◌⊎◌, inl, inr, ⊎_elim, by_cases}
use mathlib.Core.List.Memᴰ
use mathlib.Core.List.{List, [], ◌∷◌, ◌++◌, append-nil, Memᴰ}
use Prim.Native.Nat.{ℕ, zero, suc, ◌≤◌, ◌<◌}
use native.Mathlib.Decide.{dec_lt}
use native.Mathlib.Omega.{arith}
use lib.ListN.{length, take}
use lib.Seq.{take_all}
use Rattle.game.proofs.Bools.{test-cases}
use Rattle.block_count.specs.BlockCount.{different}
use Rattle.block_count.specs.Taken.{all_met, taken_after, CountEnds}
use Rattle.block_count.proofs.Different.{different-none, Full, full-within, full-different, different-full, met-full, unmet-open, open-fewer, fewer-open, different-le}

-- a list of blocks, with one of them moved from behind the front to before it
module _ (met : List ℕ) (b : ℕ) (bs : List ℕ) (j : ℕ) where
  pub to_front : Memᴰ j (met ++ b ∷ bs) → Memᴰ j ((b ∷ met) ++ bs)
  to_front m =
      ⊎_elim
      (λ l. Memᴰ.tail (Memᴰ.append_left {s = met} bs l))
      (λ r. ⊎_elim (λ q. Memᴰ.head q) (λ t. Memᴰ.tail (Memᴰ.append_right met t)) (Memᴰ.cases_cons r))
      (Memᴰ.append_cases met m)

  pub from_front : Memᴰ j ((b ∷ met) ++ bs) → Memᴰ j (met ++ b ∷ bs)
  from_front m =
      ⊎_elim
      (λ q. Memᴰ.append_right met (Memᴰ.head q))
      (λ t.
      ⊎_elim (λ l. Memᴰ.append_left {s = met} (b ∷ bs) l) (λ r. Memᴰ.append_right met (Memᴰ.tail r)) (Memᴰ.append_cases met t))
      (Memᴰ.cases_cons m)

-- the front of a list is in it
pub take_in : (t : ℕ) (xs : List ℕ) {j : ℕ} → Memᴰ j (take t xs) → Memᴰ j xs
take_in zero xs m = absurd (Memᴰ.not-nil m)
take_in (suc t) [] m = m
take_in (suc t) (x ∷ xs) m = ⊎_elim (λ q. Memᴰ.head q) (λ r. Memᴰ.tail (take_in t xs r)) (Memᴰ.cases_cons m)

-- with some blocks met before, t is where the count of k ends
pub record Ends (k : ℕ) (met bs : List ℕ) (t : ℕ) : Type 0 where
  pub within : t ≤ length bs
  pub before : (i : ℕ) → i < t → Full k (met ++ take i bs) → ⊥
  pub closed : Full k (met ++ take t bs) ⊎ (t ≡ length bs)

-- one edge more is taken
ends-met : {k : ℕ} {met : List ℕ} (b : ℕ) (bs : List ℕ) → (Full k met → ⊥) → Full k (b ∷ met) → Ends k met (b ∷ bs) 1
ends-met {k} {met} b bs o f = record {
  within = omega arith;
  before = first;
  closed = inl (full-within (λ j m. from_front met b [] j (rw (append-nil (b ∷ met)) m)) f);
}
  where
    first : (i : ℕ) → i < 1 → Full k (met ++ take i (b ∷ bs)) → ⊥
    first zero h g = o (rw (append-nil met) at g)
    first (suc i) h g = absurd (omega arith)

ends_more : {k : ℕ} {met : List ℕ} (b : ℕ) (bs : List ℕ) {t : ℕ} → (Full k met → ⊥) → Ends k (b ∷ met) bs t → Ends k met (b ∷ bs) (suc t)
ends_more {k} {met} b bs {t} o e = record {
  within = omega (arith, e.within);
  before = earlier;
  closed = ⊎_elim (λ f. inl (full-within (λ j m. from_front met b (take t bs) j m) f)) (λ q. inr (ap suc q)) e.closed;
}
  where
    earlier : (i : ℕ) → i < suc t → Full k (met ++ take i (b ∷ bs)) → ⊥
    earlier zero h g = o (rw (append-nil met) at g)
    earlier (suc i) h g = e.before i (omega arith) (full-within (λ j m. to_front met b (take i bs) j m) g)

pub taken-ends : (k : ℕ) (met bs : List ℕ) → (Full k met → ⊥) → Ends k met bs (taken_after k met bs)
unfolding taken_after
taken-ends k met [] o = record { within = omega arith; before = λ i h. absurd (omega arith); closed = inr refl }
taken-ends k met (b ∷ bs) o =
    test-cases (all_met k (b ∷ met))
    (λ e. rw e (ends-met b bs o (met-full k (b ∷ met) e)))
    (λ e. rw e (ends_more b bs o (taken-ends k (b ∷ met) bs (unmet-open k (b ∷ met) e))))

-- it ends in one place
pub ends-once : {k : ℕ} {met bs : List ℕ} {t u : ℕ} → Ends k met bs t → Ends k met bs u → t ≡ u
ends-once {k} {met} {bs} {t} {u} e f =
    by_cases (dec_lt t u) (λ (h : t < u). absurd (not-before e f h))
    (λ (g : t < u → ⊥). by_cases (dec_lt u t) (λ (h : u < t). absurd (not-before f e h)) (λ (l : u < t → ⊥). omega arith))
  where
    not-before : {t u : ℕ} → Ends k met bs t → Ends k met bs u → t < u → ⊥
    not-before {t} {u} e f h = ⊎_elim (λ c. f.before t h c) (λ (q : t ≡ length bs). absurd (omega (arith, f.within))) e.closed

-- nothing is met at first, and there is a block to be met
pub nothing-open : (k : ℕ) → 0 < k → Full k [] → ⊥
nothing-open k h f = absurd (omega (arith, full-different k [] f, different-none k))

-- the same as what the definition's own record says
module _ {k : ℕ} {bs : List ℕ} {t : ℕ} where
  pub ends-count : Ends k [] bs t → CountEnds k bs t
  ends-count e = record {
    within = e.within;
    enough = ⊎_elim (λ f. full-different k (take t bs) f ∙ sym (full-different k bs (whole f))) (λ q. ap (different k) (take_all t bs (omega arith))) e.closed;
    no_fewer = λ i h. open-fewer k (take i bs) (e.before i h);
    or_all = λ h. ⊎_elim (λ f. absurd (fewer-open k bs h (whole f))) (λ q. q) e.closed;
  }
    where
      whole : Full k (take t bs) → Full k bs
      whole f = full-within (λ j m. take_in t bs m) f

  pub count-ends : CountEnds k bs t → Ends k [] bs t
  count-ends c = record {
    within = c.within;
    before = λ i h. fewer-open k (take i bs) (c.no_fewer i h);
    closed =
        by_cases (dec_lt (different k bs) k)
        (λ (h : different k bs < k). inr (c.or_all h))
        (λ (n : different k bs < k → ⊥). inl (different-full k (take t bs) (c.enough ∙ full-count n)));
  }
    where
      full-count : (different k bs < k → ⊥) → different k bs ≡ k
      full-count n = omega (arith, different-le k bs)

-- No other number does so.
pub taken-once : {k : ℕ} {bs : List ℕ} {t u : ℕ} → CountEnds k bs t → CountEnds k bs u → t ≡ u
taken-once c d = ends-once (count-ends c) (count-ends d)
