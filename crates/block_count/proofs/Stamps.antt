-- Blocks that are stamped as they are met: how many different ones a list has.
-- Assumes nothing.
use mathlib.Core.Path.{◌≡◌, refl, sym, ap, ap₂, subst, ◌∙◌}
use mathlib.Core.Logic.{◌⊎◌, inl, inr, ⊎_elim, by_cases}
use mathlib.Core.Bool.{Bool, cond}
use mathlib.Core.List.{List, [], ◌∷◌, ◌++◌, map, append-nil, append_assoc, map-append}
use Prim.Native.Nat.{ℕ, zero, suc, ◌+◌, ◌≤◌, ◌<◌}
use native.Mathlib.Nat.{zero-add, le_refl, le_trans, le_of_eq}
use native.Mathlib.Numerals.{add-one}
use native.Mathlib.Decide.{ℕ_discrete, dec_lt}
use native.Mathlib.Omega.{arith}
use lib.Dec.{eqb}
use lib.ListN.{length, get_or, set, take, length-set}
use lib.Seq.{get_or-set_same, get_or-set_other, set-get_or, take-suc}
use borrow.Author.Tests.{eq-eqb, ne_eqb}
use Rattle.game.specs.Table.{member}
use Rattle.block_count.specs.BlockCount.{different}
use Rattle.block_count.specs.CountingSteps.{own_block, met_blocks, Fresh, Stamped, Counts}
use Rattle.block_count.proofs.Different.{member-here, member-other, different-last, different-none, different-le}

-- before any block is met
pub stamped-none : {stamps : List ℕ} {stamp : ℕ} → Fresh stamps stamp → Stamped stamps stamp [] 0
unfolding member
stamped-none {stamps} {stamp} f = record {
  known = λ j. omega (arith, f.older j);
  each = λ j h. ne_eqb (get_or stamps j 0) stamp (λ (e : get_or stamps j 0 ≡ stamp). omega (arith, f.older j));
  counted = sym (different-none (length stamps));
}

-- one more is met
pub stamped-meet : {stamps : List ℕ} {stamp : ℕ} {bs : List ℕ} {r : ℕ} → Stamped stamps stamp bs r → (b : ℕ) → b < length stamps
    → {stamps' : List ℕ} {d : ℕ} → stamps' ≡ set stamps b stamp → d ≡ cond (eqb (get_or stamps b 0) stamp) 0 1 → Stamped stamps' stamp (bs ++ b ∷ []) (r + d)
stamped-meet {stamps} {stamp} {bs} {r} s b h {stamps'} {d} e q = record {
  known = λ j. rw e (by_cases (ℕ_discrete j b) (known-here j) (λ n. rw (get_or-set_other stamps b j stamp 0 n) (s.known j)));
  each = λ j l. rw e (by_cases (ℕ_discrete j b) (here j) (λ n. rw (get_or-set_other stamps b j stamp 0 n, member-other j b bs n) (s.each j (rw long at l))));
  counted =
      ap₂ ◌+◌ s.counted (q ∙ ap (λ (t : Bool). cond t 0 1) (s.each b h))
      ∙ sym (different-last (length stamps) b bs h)
      ∙ ap (λ (k : ℕ). different k (bs ++ b ∷ [])) (sym long);
}
  where
    long : length stamps' ≡ length stamps
    long = ap length e ∙ length-set stamps b stamp

    known-here : (j : ℕ) → j ≡ b → get_or (set stamps b stamp) j 0 ≤ stamp
    known-here j n = rw (n, get_or-set_same stamps b stamp 0 h) (le_refl stamp)

    here : (j : ℕ) → j ≡ b → eqb (get_or (set stamps b stamp) j 0) stamp ≡ member j (bs ++ b ∷ [])
    here j n = rw (n, get_or-set_same stamps b stamp 0 h, member-here b bs) (eq-eqb stamp stamp refl)

-- a block that has the stamp, or not
module _ (stamps : List ℕ) (stamp b : ℕ) where
  pub met-again : get_or stamps b 0 ≡ stamp → (stamps ≡ set stamps b stamp) × (◌≡◌ {A = ℕ} 0 (cond (eqb (get_or stamps b 0) stamp) 0 1))
  met-again e = (sym (ap (set stamps b) (sym e) ∙ set-get_or stamps b 0), rw (eq-eqb (get_or stamps b 0) stamp e) refl)

  pub met-first : (get_or stamps b 0 ≡ stamp → ⊥)
      → (set stamps b stamp ≡ set stamps b stamp) × (◌≡◌ {A = ℕ} 1 (cond (eqb (get_or stamps b 0) stamp) 0 1))
  met-first d = (refl, rw (ne_eqb (get_or stamps b 0) stamp d) refl)

-- a vertex's own block
module _ {stamps : List ℕ} {stamp : ℕ} (f : Fresh stamps stamp) (b : ℕ) where
  pub own-none : {up : ℕ} → up ≡ 0 → Stamped stamps stamp (own_block up b) 0
  unfolding own_block
  own-none e = rw e (stamped-none f)

  pub own-met : (up : ℕ) → (up ≡ 0 → ⊥) → b < length stamps → {stamps' : List ℕ} {d : ℕ} → stamps' ≡ set stamps b stamp
      → d ≡ cond (eqb (get_or stamps b 0) stamp) 0 1 → Stamped stamps' stamp (own_block up b) d
  unfolding own_block
  own-met zero n h e q = absurd (n refl)
  own-met (suc w) n h {stamps'} {d} e q = subst (Stamped stamps' stamp (b ∷ [])) (zero-add d) (stamped-meet (stamped-none f) b h e q)

-- no more are met than there are
pub stamped-few : {stamps : List ℕ} {stamp : ℕ} {bs : List ℕ} {r : ℕ} → Stamped stamps stamp bs r → r ≤ length stamps
stamped-few {stamps} {bs = bs} s = le_trans (le_of_eq s.counted) (different-le (length stamps) bs)

-- where the count at y stands: the first i of its lower neighbours are read, and no fewer met all blocks
pub record AtTurn (k : ℕ) (block : List ℕ) (y up : ℕ) (lower stamps : List ℕ) (count i : ℕ) : Type 0 where
  pub within : i ≤ length lower
  pub all : length stamps ≡ k
  pub stamped : Stamped stamps (y + 1) (met_blocks block y up (take i lower)) count
  pub needed : (j : ℕ) → j < i → different k (met_blocks block y up (take j lower)) < k

module _ {k : ℕ} {block : List ℕ} {y up : ℕ} {lower : List ℕ} where
  -- the own block is met
  pub at-start : {r : ℕ} {stamps : List ℕ} → length stamps ≡ k → Stamped stamps (y + 1) (own_block up (get_or block y 0)) r → AtTurn k block y up lower stamps r 0
  unfolding met_blocks
  at-start {r = r} {stamps = stamps} l s = record {
    within = omega arith;
    all = l;
    stamped = subst (λ (bs : List ℕ). Stamped stamps (y + 1) bs r) (sym (append-nil (own_block up (get_or block y 0)))) s;
    needed = λ j h. absurd (omega arith);
  }

  module _ {stamps : List ℕ} {count i : ℕ} (t : AtTurn k block y up lower stamps count i) where
    pub at-few : count ≤ k
    at-few = omega (arith, stamped-few t.stamped, t.all)

    -- one lower neighbour more
    pub at-step : i < length lower → (count ≡ k → ⊥) → {d : ℕ} {stamps' : List ℕ} → get_or block (get_or lower i 0) 0 < k
        → stamps' ≡ set stamps (get_or block (get_or lower i 0) 0) (y + 1) → d ≡ cond (eqb (get_or stamps (get_or block (get_or lower i 0) 0) 0) (y + 1)) 0 1
        → AtTurn k block y up lower stamps' (count + d) (i + 1)
    unfolding met_blocks
    at-step h n {d} {stamps'} b q f = record {
      within = omega arith;
      all = ap length q ∙ length-set stamps (block_at (get_or lower i 0)) (y + 1) ∙ t.all;
      stamped =
          subst (λ (bs : List ℕ). Stamped stamps' (y + 1) bs (count + d))
          (append_assoc (own_block up (get_or block y 0)) (map block_at (take i lower)) (block_at (get_or lower i 0) ∷ [])
          ∙ ap (λ (bs : List ℕ). own_block up (get_or block y 0) ++ bs)
          (sym (map-append block_at (take i lower) (get_or lower i 0 ∷ [])) ∙ ap (map block_at) longer))
          (stamped-meet t.stamped (block_at (get_or lower i 0)) (omega (arith, t.all)) q f);
      needed = λ j l. by_cases (dec_lt j i) (t.needed j) (λ (o : j < i → ⊥). subst (λ (v : ℕ). different k (met_blocks block y up (take v lower)) < k) (last l o) fewer);
    }
      where
        block_at : ℕ → ℕ
        block_at u = get_or block u 0

        longer : take i lower ++ (get_or lower i 0 ∷ []) ≡ take (i + 1) lower
        longer = rw (add-one, take-suc lower i 0) refl

        last : {j : ℕ} → j < i + 1 → (j < i → ⊥) → i ≡ j
        last l o = omega arith

        less : (count ≡ k → ⊥) → count ≤ k → count < k
        less n h = omega arith

        fewer : different k (met_blocks block y up (take i lower)) < k
        fewer = omega (arith, less n at-few, t.stamped.counted, ap (λ (m : ℕ). different m (met_blocks block y up (take i lower))) t.all)

    -- all blocks are met, or there is no other neighbour
    found : (count ≡ k) ⊎ (length lower ≤ i) → Counts k block y up lower stamps (record { count = count; read = i })
    found h = record {
      known = t.stamped.known;
      found = record {
        within = t.within;
        counted = t.stamped.counted ∙ ap (λ (m : ℕ). different m (met_blocks block y up (take i lower))) t.all;
        ended = λ (l : i < length lower). ⊎_elim (λ e. e) (λ (g : length lower ≤ i). absurd (omega arith)) h;
        needed = t.needed;
      };
    }

    pub at_all : count ≡ k → Counts k block y up lower stamps (record { count = count; read = i })
    at_all e = found (inl e)

    pub at-end : length lower ≤ i → Counts k block y up lower stamps (record { count = count; read = length lower })
    at-end h = let e : i ≡ length lower = omega (arith, t.within) in subst (λ (r : ℕ). Counts k block y up lower stamps (record { count = count; read = r })) e (found (inr h))
