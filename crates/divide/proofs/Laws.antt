-- What document 01 says of dividing, of every net and limits that Divide accepts (Refused.accepted gives the hypotheses):
-- "Block loads sum to the total, and k × the largest is at most total + (k−1) × B"; a group weighs what its top carries, at most B;
-- and the load of a block is the weight of its vertices. That a vertex which carries nothing is never cut is Carried.nought-uncut;
-- of tops in general speaks Groups.
-- Assumes nothing.
use mathlib.Core.Path.{◌≡◌, refl, sym, ap, subst, ◌∙◌}
use mathlib.Core.Logic.{by_cases}
use mathlib.Core.Bool.{Bool, true, false}
use mathlib.Core.List.{List, [], ◌∷◌, map, Memᴰ}
use Prim.Native.Nat.{ℕ, suc, ◌+◌, ◌-◌, ◌*◌, ◌≤◌, ◌<◌, max}
use native.Mathlib.Nat.{mul-zero}
use native.Mathlib.Decide.{dec_le}
use native.Mathlib.Omega.{arith}
use lib.Dec.{eqb}
use lib.ListN.{length, get_or}
use borrow.Author.Tests.{eqb-true}
use Rattle.game.specs.Table.{tabulate, sum, filtered}
use Rattle.game.specs.Game.{absent}
use Rattle.game.proofs.Sound.{Sound, sound-true}
use Rattle.game.proofs.Tables.{tabulate-entry}
use Rattle.cut.specs.Cut.{carried, cut, top, is_top, group_weight}
use Rattle.pack.specs.Pack.{loads_below, block_of, largest}
use Rattle.game.specs.Net.{net}
use Rattle.game.proofs.Bools.{test-cases}
use Rattle.game.proofs.Paths.{parent-higher}
use Rattle.divide.specs.Divide.{divided}
use Rattle.cut.specs.Steps.{Divisible, Grouped}
use Rattle.cut.proofs.Lists.{stretch, stretch-in, sum-agree}
use Rattle.groups.proofs.Sums.{only, total-filtered}
use Rattle.cut.proofs.Carried.{entry, greedy-carrying, carried-fits}
use Rattle.groups.proofs.Groups.{top_up, group-weight, chosen-weight}
use Rattle.pack.proofs.BlockLoads.{loads-length, loads-sum, load-entry, loads-even, sum-spread}
use Rattle.pack.proofs.Blocks.{top_in}
use Rattle.divide.proofs.Divided.{tops-entry, groups-weight}

-- a bound on every load bounds the largest
largest-within : (loads : List ℕ) (k m : ℕ) → ((j : ℕ) → j < length loads → k * get_or loads j 0 ≤ m) → k * largest loads ≤ m
unfolding largest
largest-within [] k m f = rw (mul-zero k) (omega arith)
largest-within (v ∷ loads) k m f =
    by_cases (dec_le v (largest loads))
    (λ (h : v ≤ largest loads).
    let e : max v (largest loads) ≡ largest loads = omega arith in
    rw e (largest-within loads k m (λ j l. f (suc j) (omega arith))))
    (λ (h : v ≤ largest loads → ⊥). let e : max v (largest loads) ≡ v = omega arith in rw e (f 0 (omega arith)))

module _ {p w : List ℕ} {B : ℕ} (d : Divisible p w B) where
  s : Sound p
  s = sound-true p d.known

  u : length p ≤ absent
  u = omega (arith, d.few)

  abbrev cuts : ℕ → Bool
  cuts = cut p w B

  abbrev weight : ℕ → ℕ
  weight = entry (carried p w B)

  abbrev tops : List ℕ
  tops = tabulate (length p) (top p cuts)

  -- a group weighs what its top carries
  pub group-carried : (t : ℕ) → t < length p → top p (cut p w B) t ≡ t → group_weight p w (cut p w B) t ≡ get_or (carried p w B) t 0
  group-carried t l e = group-weight s u (greedy-carrying s u w B) t l e

  -- at most the limit
  pub group-fits : (t : ℕ) → t < length p → top p (cut p w B) t ≡ t → group_weight p w (cut p w B) t ≤ B
  group-fits t l e = rw (group-carried t l e) (carried-fits s u w B d.light t l)

  grouped : Grouped p w B (carried p w B) tops
  grouped = record { weights = refl; table = refl }

  module _ (k : ℕ) (some : 1 ≤ k) where
    abbrev loads : List ℕ
    loads = loads_below (top_in tops) weight k (length p)

    loads-are : (divided (net p w) B k).block_loads ≡ loads
    unfolding divided cut
    loads-are = refl

    loads-size : length loads ≡ k
    loads-size = loads-length (top_in tops) weight k (length p)

    -- a load for each block
    pub block-loads-long : length (divided (net p w) B k).block_loads ≡ k
    block-loads-long = ap length loads-are ∙ loads-size

    loads-total : sum loads ≡ sum w
    loads-total = loads-sum (top_in tops) weight k some (length p) ∙ groups-weight d grouped

    top-fits : (x : ℕ) → x < length p → top_in tops x ≡ true → weight x ≤ B
    top-fits x l e = carried-fits s u w B d.light x l

    load-within : (j : ℕ) → j < k → k * get_or loads j 0 ≤ sum w + (k - 1) * B
    load-within j h =
        rw (← loads-total)
        (subst (λ (n : ℕ). n * get_or loads j 0 ≤ sum loads + (n - 1) * B) loads-size
        (sum-spread loads j B (omega (arith, loads-size)) (λ i l. loads-even (top_in tops) weight k some B (length p) top-fits j i h (omega (arith, loads-size)))))

    -- block loads sum to the total
    pub block-loads-sum : sum (divided (net p w) B k).block_loads ≡ sum w
    block-loads-sum = ap sum loads-are ∙ loads-total

    -- k × the largest is at most total + (k−1) × B
    pub largest-bound : k * largest (divided (net p w) B k).block_loads ≤ sum w + (k - 1) * B
    largest-bound = rw loads-are (largest-within loads k (sum w + (k - 1) * B) (λ j l. load-within j (omega (arith, loads-size))))

    block_in : ℕ → ℕ
    block_in x = block_of (top_in tops) weight k (get_or tops x 0)

    blocks-are : (x : ℕ) → x < length p → get_or (divided (net p w) B k).block x 0 ≡ block_in x
    unfolding divided cut block_in
    blocks-are x l = tabulate-entry (length p) block_in x 0 l

    -- an uncut link joins two of one block
    joined : (x : ℕ) → get_or p x absent < length p → cuts x ≡ false → block_in x ≡ block_in (get_or p x absent)
    unfolding block_in
    joined x h e =
        ap (block_of (top_in tops) weight k)
        (tops-entry d grouped x (parent-higher s u x h).1 ∙ top_up s u cuts x h e ∙ sym (tops-entry d grouped (get_or p x absent) h))

    -- what the tops of a block carry
    module _ (j x : ℕ) (l : x < length p) where
      carried_by : only (top_in tops x) (only (eqb (block_of (top_in tops) weight k x) j) (weight x)) ≡ only (is_top p cuts x) (only (eqb (block_in x) j) (weight x))
      unfolding is_top block_in
      carried_by =
          test-cases (top_in tops x)
          (λ e.
          let q : get_or tops x 0 ≡ x = eqb-true (get_or tops x 0) x e in
          ap (λ (v : ℕ). only (top_in tops x) (only (eqb (block_of (top_in tops) weight k v) j) (weight x))) (sym q) ∙ same)
          (λ e. ap (λ (b : Bool). only b (only (eqb (block_of (top_in tops) weight k x) j) (weight x))) e ∙ sym (ap (λ (b : Bool). only b (only (eqb (block_in x) j) (weight x))) e) ∙ same)
        where
          same : only (top_in tops x) (only (eqb (block_in x) j) (weight x)) ≡ only (is_top p cuts x) (only (eqb (block_in x) j) (weight x))
          same = ap (λ (v : ℕ). only (eqb v x) (only (eqb (block_in x) j) (weight x))) (tops-entry d grouped x l)

    -- the load of a block is the weight of its vertices
    pub block-load : (j : ℕ) → j < k → get_or (divided (net p w) B k).block_loads j 0
        ≡ sum (map (λ (x : ℕ). get_or w x 0) (filtered (λ (x : ℕ). eqb (get_or (divided (net p w) B k).block x 0) j) (tabulate (length p) (λ (x : ℕ). x))))
    unfolding tabulate
    block-load j h =
        ap (λ (v : List ℕ). get_or v j 0) loads-are
        ∙ load-entry (top_in tops) weight k some j h (length p)
        ∙ sum-agree (λ x. only (top_in tops x) (only (eqb (block_of (top_in tops) weight k x) j) (weight x)))
        (λ x. only (is_top p cuts x) (only (eqb (block_in x) j) (weight x))) ranks (λ x m. carried_by j x (inside m))
        ∙ sym (chosen-weight s u (λ x. eqb (block_in x) j) (λ x g e. ap (λ (v : ℕ). eqb v j) (joined x g e)) (greedy-carrying s u w B))
        ∙ sum-agree (λ x. only (eqb (block_in x) j) (entry w x)) (λ x. only (eqb (get_or (divided (net p w) B k).block x 0) j) (entry w x)) ranks
        (λ x m. ap (λ (v : ℕ). only (eqb v j) (entry w x)) (sym (blocks-are x (inside m))))
        ∙ sym (total-filtered (λ x. eqb (get_or (divided (net p w) B k).block x 0) j) (entry w) ranks)
      where
        ranks : List ℕ
        ranks = stretch 0 (length p)

        inside : {x : ℕ} → Memᴰ x ranks → x < length p
        inside {x} m = omega (arith, (stretch-in 0 (length p) m).1)
