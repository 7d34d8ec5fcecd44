-- Packing: block loads come to what the tops carry, each block's load to what its own tops carry, and no load is above another by more
-- than the heaviest group.
-- Assumes nothing.
use mathlib.Core.Path.{◌≡◌, refl, sym, ap, ◌∙◌}
use mathlib.Core.Logic.{◌≢◌, ◌⊎◌, inl, inr, ⊎_elim, by_cases}
use mathlib.Core.Bool.{Bool, true, false}
use mathlib.Core.List.{List, [], ◌∷◌}
use Prim.Native.Nat.{ℕ, zero, suc, ◌+◌, ◌-◌, ◌*◌, ◌≤◌, ◌<◌}
use native.Mathlib.Nat.{add-zero, suc-mul, zero-mul}
use native.Mathlib.Decide.{ℕ_discrete}
use native.Mathlib.Omega.{arith}
use lib.Dec.{eqb}
use lib.ListN.{length, get_or, replicate, length-set, length-replicate, get_or-replicate}
use lib.Seq.{get_or-set_same, get_or-set_other}
use borrow.Author.Tests.{eq-eqb, ne_eqb}
use Rattle.game.specs.Table.{sum}
use Rattle.game.proofs.Tables.{sum_zeros, sum-set}
use Rattle.game.proofs.Bools.{test-cases}
use Rattle.pack.specs.Pack.{with_load, loads_below, block_of}
use Rattle.cut.proofs.Lists.{stretch}
use Rattle.pack.proofs.Lightest.{Lightest, lightest-is}
use Rattle.groups.proofs.Sums.{only, total, total-grown}

-- one group put into a block
module _ (loads : List ℕ) (j v : ℕ) where
  with-load-length : length (with_load loads j v) ≡ length loads
  unfolding with_load
  with-load-length = length-set loads j (get_or loads j 0 + v)

  pub with-load-here : j < length loads → get_or (with_load loads j v) j 0 ≡ get_or loads j 0 + v
  unfolding with_load
  with-load-here h = get_or-set_same loads j (get_or loads j 0 + v) 0 h

  with-load-other : (i : ℕ) → i ≢ j → get_or (with_load loads j v) i 0 ≡ get_or loads i 0
  unfolding with_load
  with-load-other i d = get_or-set_other loads j i (get_or loads j 0 + v) 0 d

  with-load-sum : j < length loads → sum (with_load loads j v) ≡ sum loads + v
  unfolding with_load
  with-load-sum h = omega (arith, sum-set loads j (get_or loads j 0 + v) h)

module _ (tops : ℕ → Bool) (c : ℕ → ℕ) (k : ℕ) where
  pub pack-none : loads_below tops c k 0 ≡ replicate k 0
  unfolding loads_below
  pack-none = refl

  pub pack-on : (m : ℕ) → tops m ≡ true → loads_below tops c k (suc m) ≡ with_load (loads_below tops c k m) (block_of tops c k m) (c m)
  unfolding block_of
  pack-on m e = rw e

  pub pack-pass : (m : ℕ) → tops m ≡ false → loads_below tops c k (suc m) ≡ loads_below tops c k m
  unfolding loads_below
  pack-pass m e = rw e

  pub loads-length : (m : ℕ) → length (loads_below tops c k m) ≡ k
  unfolding loads_below
  loads-length zero = length-replicate k 0
  loads-length (suc m) =
      test-cases (tops m)
      (λ e. ap length (pack-on m e) ∙ with-load-length (loads_below tops c k m) (block_of tops c k m) (c m) ∙ loads-length m)
      (λ e. ap length (pack-pass m e) ∙ loads-length m)

  module _ (some : 0 < k) where
    block-lightest : (m : ℕ) → Lightest (loads_below tops c k m) (block_of tops c k m)
    unfolding block_of
    block-lightest m = lightest-is (loads_below tops c k m) (omega (arith, loads-length m, some))

    pub block_inside : (m : ℕ) → block_of tops c k m < k
    block_inside m = omega (arith, (block-lightest m).inside, loads-length m)

    -- the loads come to what the tops carry
    pub loads-sum : (m : ℕ) → sum (loads_below tops c k m) ≡ total (stretch 0 m) (λ x. only (tops x) (c x))
    loads-sum = total-grown (λ m. sum (loads_below tops c k m)) (λ x. only (tops x) (c x)) none more
      where
        none : sum (loads_below tops c k 0) ≡ 0
        none = ap sum pack-none ∙ sum_zeros k

        more : (m : ℕ) → sum (loads_below tops c k (suc m)) ≡ sum (loads_below tops c k m) + only (tops m) (c m)
        more m =
            test-cases (tops m)
            (λ e. rw (pack-on m e, e) (with-load-sum (loads_below tops c k m) (block_of tops c k m) (c m) (block-lightest m).inside))
            (λ e. rw (pack-pass m e, e) (sym (add-zero (sum (loads_below tops c k m)))))

    -- each load comes to what the tops of its block carry
    pub load-entry : (j : ℕ) → j < k → (m : ℕ)
        → get_or (loads_below tops c k m) j 0 ≡ total (stretch 0 m) (λ x. only (tops x) (only (eqb (block_of tops c k x) j) (c x)))
    load-entry j h = total-grown (λ m. get_or (loads_below tops c k m) j 0) (λ x. only (tops x) (only (eqb (block_of tops c k x) j) (c x))) none more
      where
        none : get_or (loads_below tops c k 0) j 0 ≡ 0
        none = rw pack-none (get_or-replicate k j 0 0 h)

        more : (m : ℕ) → get_or (loads_below tops c k (suc m)) j 0 ≡ get_or (loads_below tops c k m) j 0 + only (tops m) (only (eqb (block_of tops c k m) j) (c m))
        more m =
            test-cases (tops m)
            (λ e.
            by_cases (ℕ_discrete j (block_of tops c k m))
            (λ (q : j ≡ block_of tops c k m).
            rw (pack-on m e, e, q, eq-eqb (block_of tops c k m) (block_of tops c k m) refl)
            (with-load-here (loads_below tops c k m) (block_of tops c k m) (c m) (block-lightest m).inside))
            (λ (d : j ≢ block_of tops c k m).
            rw (pack-on m e, e, ne_eqb (block_of tops c k m) j (λ f. d (sym f)))
            (with-load-other (loads_below tops c k m) (block_of tops c k m) (c m) j d ∙ sym (add-zero (get_or (loads_below tops c k m) j 0)))))
            (λ e. rw (pack-pass m e, e) (sym (add-zero (get_or (loads_below tops c k m) j 0))))

    -- no load is above another by more than the heaviest group
    pub loads-even : (B : ℕ) (m : ℕ) → ((x : ℕ) → x < m → tops x ≡ true → c x ≤ B) → (i j : ℕ) → i < k → j < k
        → get_or (loads_below tops c k m) i 0 ≤ get_or (loads_below tops c k m) j 0 + B
    loads-even B zero f i j hi hj = rw pack-none (omega (arith, get_or-replicate {A = ℕ} k i 0 0 hi))
    loads-even B (suc m) f i j hi hj =
        test-cases (tops m)
        (λ e. rw (pack-on m e) (packed e (λ i j hi hj. loads-even B m (λ x l. f x (omega arith)) i j hi hj)))
        (λ e. rw (pack-pass m e) (loads-even B m (λ x l. f x (omega arith)) i j hi hj))
      where
        was : List ℕ
        was = loads_below tops c k m

        b : ℕ
        b = block_of tops c k m

        new : List ℕ
        new = with_load was b (c m)

        grown : (v : ℕ) → (v ≡ b) ⊎ (v ≢ b) → (get_or new v 0 ≡ get_or was v 0) ⊎ ((v ≡ b) × (get_or new v 0 ≡ get_or was v 0 + c m))
        grown v (inl e) = inr (e, rw e (with-load-here was b (c m) (block-lightest m).inside))
        grown v (inr d) = inl (with-load-other was b (c m) v d)

        cases : (v : ℕ) → (get_or new v 0 ≡ get_or was v 0) ⊎ ((v ≡ b) × (get_or new v 0 ≡ get_or was v 0 + c m))
        cases v = grown v (by_cases (ℕ_discrete v b) (λ e. inl e) (λ d. inr d))

        packed : tops m ≡ true → ((i j : ℕ) → i < k → j < k → get_or was i 0 ≤ get_or was j 0 + B) → get_or new i 0 ≤ get_or new j 0 + B
        packed e even =
            ⊎_elim
            (λ (a : get_or new i 0 ≡ get_or was i 0).
            ⊎_elim (λ (q : get_or new j 0 ≡ get_or was j 0). omega (arith, even i j hi hj)) (λ (q : (j ≡ b) × (get_or new j 0 ≡ get_or was j 0 + c m)). omega (arith, even i j hi hj)) (cases j))
            (λ (a : (i ≡ b) × (get_or new i 0 ≡ get_or was i 0 + c m)).
            let l : get_or was i 0 ≤ get_or was j 0 = rw a.0 ((block-lightest m).least j (omega (arith, loads-length m))) in
            let g : c m ≤ B = f m (omega arith) e in
            ⊎_elim (λ (q : get_or new j 0 ≡ get_or was j 0). omega arith) (λ (q : (j ≡ b) × (get_or new j 0 ≡ get_or was j 0 + c m)). omega arith) (cases j))
            (cases i)

-- entries that come within B of v sum to as many times v, but for B each
sum_near : (xs : List ℕ) (v B : ℕ) → ((i : ℕ) → i < length xs → v ≤ get_or xs i 0 + B) → length xs * v ≤ sum xs + length xs * B
unfolding sum
sum_near [] v B f = rw (zero-mul v) (omega arith)
sum_near (x ∷ xs) v B f = rw (suc-mul (length xs) v, suc-mul (length xs) B) (omega (arith, f 0 (omega arith), sum_near xs v B (λ i l. f (suc i) (omega arith))))

-- one of them is v
pub sum-spread : (xs : List ℕ) (j B : ℕ) → j < length xs → ((i : ℕ) → i < length xs → get_or xs j 0 ≤ get_or xs i 0 + B)
    → length xs * get_or xs j 0 ≤ sum xs + (length xs - 1) * B
unfolding sum
sum-spread [] j B h f = absurd (omega arith)
sum-spread (x ∷ xs) zero B h f =
    let e : suc (length xs) - 1 ≡ length xs = omega arith in
    rw (e, suc-mul (length xs) x) (omega (arith, sum_near xs x B (λ i l. f (suc i) (omega arith))))
sum-spread (x ∷ xs) (suc j) B h f =
    let e : suc (length xs) - 1 ≡ length xs = omega arith in
    rw (e, suc-mul (length xs) (get_or xs j 0))
    (omega (arith, one_less (length xs) (omega arith), f 0 (omega arith), sum-spread xs j B (omega arith) (λ i l. f (suc i) (omega arith))))
  where
    one_less : (n : ℕ) → 0 < n → n * B ≡ (n - 1) * B + B
    one_less zero l = absurd (omega arith)
    one_less (suc n) l = let e : suc n - 1 ≡ n = omega arith in rw e (suc-mul n B)
