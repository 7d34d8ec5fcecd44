-- Ties dealt out by a number: the parts, together in any order, have the net of all, and a part is charged what the vertices weigh that
-- hold its number. Nothing is asked of how the numbers were chosen but that each tie has one.
-- Assumes nothing.
use mathlib.Core.Path.{◌≡◌, refl, sym, ap, ap₂, ◌∙◌}
use mathlib.Core.Logic.{⊎_elim}
use mathlib.Core.Bool.{Bool, true, false, cond}
use mathlib.Core.List.Memᴰ
use mathlib.Core.List.{List, [], ◌∷◌, ◌++◌, map, Memᴰ, Permᴰ}
use Prim.Native.Nat.{ℕ, suc, ◌+◌, ◌≤◌, ◌<◌}
use native.Mathlib.Nat.{zero-add}
use native.Mathlib.Omega.{arith}
use lib.Dec.{eqb}
use lib.ListN.{length}
use borrow.Author.Tests.{eq-eqb}
use Rattle.game.specs.Table.{sum, filtered}
use Rattle.game.specs.Edge.{Tie}
use Rattle.game.specs.Net.{net, owner, weight, weights, charges, net_of}
use Rattle.game.proofs.Tables.{tabulate-ext}
use Rattle.game.proofs.Edges.{linked-among}
use Rattle.game.proofs.Weights.{sum-map-append}
use Rattle.refusal.specs.Refusal.{first_fault}
use Rattle.refusal.proofs.Fault.{filtered-faultless}
use Rattle.game.proofs.Within.{within-linked}
use Rattle.game.proofs.Forest.{forest-same}
use Rattle.game.proofs.Bools.{test-cases}
use Rattle.cut.proofs.Lists.{stretch, in-stretch, sum-nought, sum-agree}
use Rattle.groups.proofs.Sums.{only, total, total-add, total_here}
use Rattle.block_count.proofs.Blocks.{filtered-in, in-filtered}

perm-total : {xs ys : List ℕ} (f : ℕ → ℕ) → Permᴰ xs ys → total xs f ≡ total ys f
unfolding sum
perm-total f Permᴰ.nil = refl
perm-total f (Permᴰ.cons e d) = omega (arith, ap f e, perm-total f d)
perm-total f (Permᴰ.swap e g) = omega (arith, ap f e, ap f g)
perm-total f (Permᴰ.trans c d) = perm-total f c ∙ perm-total f d

perm_in : {xs ys : List ℕ} {v : ℕ} → Permᴰ xs ys → Memᴰ v ys → Memᴰ v xs
perm_in Permᴰ.nil m = m
perm_in (Permᴰ.cons e d) m = ⊎_elim (λ q. Memᴰ.head (q ∙ sym e)) (λ t. Memᴰ.tail (perm_in d t)) (Memᴰ.cases_cons m)
perm_in (Permᴰ.swap e g) m =
    ⊎_elim (λ q. Memᴰ.tail (Memᴰ.head (q ∙ sym g)))
    (λ t. ⊎_elim (λ q. Memᴰ.head (q ∙ sym e)) (λ r. Memᴰ.tail (Memᴰ.tail r)) (Memᴰ.cases_cons t))
    (Memᴰ.cases_cons m)
perm_in (Permᴰ.trans c d) m = perm_in c (perm_in d m)

-- the lists one behind the other, the first last
unfoldable pub together : List (List Tie) → List Tie
together [] = []
together (ts ∷ lists) = together lists ++ ts

-- what the ties of a list come to together, each by a measure
unfoldable pub amount : (Tie → ℕ) → List Tie → ℕ
amount f ts = sum (map f ts)

-- lists with the same ties, each as often, have one net
alike-net : (n : ℕ) (ts us : List Tie) → ((t : Tie) → Memᴰ t ts → Memᴰ t us) → ((t : Tie) → Memᴰ t us → Memᴰ t ts)
    → ((f : Tie → ℕ) → amount f ts ≡ amount f us) → net_of n ts ≡ net_of n us
unfolding net_of weights weight amount
alike-net n ts us f g c =
    ap₂ net (forest-same n (within-linked (linked-among f)) (within-linked (linked-among g))) (tabulate-ext n (weight ts) (weight us) (λ x l. c (λ t. cond (eqb (owner t.edge) x) t.rows 0)))

-- Ties dealt out: each tie has a number.
module _ (deal : Tie → ℕ) where
  unfoldable pub part : List Tie → ℕ → List Tie
  part ts j = filtered (λ t. eqb (deal t) j) ts

  module _ (ts : List Tie) where
    -- a tie of the parts is of the list
    parts_in : (js : List ℕ) {t : Tie} → Memᴰ t (together (map (part ts) js)) → Memᴰ t ts
    unfolding together part
    parts_in [] m = absurd (Memᴰ.not-nil m)
    parts_in (j ∷ js) m =
        ⊎_elim (parts_in js) (λ i. (filtered-in (λ t. eqb (deal t) j) ts i).0) (Memᴰ.append_cases (together (map (part ts) js)) m)

    -- a tie of the list is of the part that has its number
    in_parts : {t : Tie} {js : List ℕ} → Memᴰ t ts → Memᴰ (deal t) js → Memᴰ t (together (map (part ts) js))
    unfolding together part
    in_parts {t = t} m (Memᴰ.head {x = j} {xs = js} q) =
        Memᴰ.append_right (together (map (part ts) js)) (in-filtered (λ t. eqb (deal t) j) m (eq-eqb (deal t) j q))
    in_parts {t = t} m (Memᴰ.tail {x = j} {xs = js} i) = Memᴰ.append_left (part ts j) (in_parts m i)

  pub part-faultless : (n : ℕ) (ts : List Tie) → first_fault n ts ≡ 0 → (j : ℕ) → first_fault n (part ts j) ≡ 0
  unfolding part
  part-faultless n ts f j = filtered-faultless n (λ t. eqb (deal t) j) ts f

  pub part_length : (ts : List Tie) (j : ℕ) → length (part ts j) ≤ length ts
  unfolding part filtered
  part_length [] j = omega arith
  part_length (t ∷ ts) j = either (eqb (deal t) j) (part_length ts j)
    where
      either : (b : Bool) → length (part ts j) ≤ length ts → length (cond b (t ∷ part ts j) (part ts j)) ≤ suc (length ts)
      either true h = omega arith
      either false h = omega arith

  -- what the parts come to
  amount-parts : (f : Tie → ℕ) (ts : List Tie) (js : List ℕ) → amount f (together (map (part ts) js)) ≡ total js (λ j. amount f (part ts j))
  unfolding together sum amount
  amount-parts f ts [] = refl
  amount-parts f ts (j ∷ js) = omega (arith, sum-map-append f (together (map (part ts) js)) (part ts j), amount-parts f ts js)

  part-cons : (f : Tie → ℕ) (t : Tie) (ts : List Tie) (j : ℕ) → amount f (part (t ∷ ts) j) ≡ only (eqb (deal t) j) (f t) + amount f (part ts j)
  unfolding part filtered amount sum
  part-cons f t ts j =
      test-cases (eqb (deal t) j) (λ (q : eqb (deal t) j ≡ true). rw q refl) (λ (q : eqb (deal t) j ≡ false). rw q (sym (zero-add _)))

  module _ {k : ℕ} {js : List ℕ} (order : Permᴰ js (stretch 0 k)) where
    -- if the numbers are below k, each tie comes in once
    amount-dealt : (f : Tie → ℕ) (ts : List Tie) → ((t : Tie) → Memᴰ t ts → deal t < k) → total js (λ j. amount f (part ts j)) ≡ amount f ts
    unfolding amount part filtered sum
    amount-dealt f [] h = sum-nought (λ j. 0) js (λ j m. refl)
    amount-dealt f (t ∷ ts) h =
        sum-agree (λ j. amount f (part (t ∷ ts) j)) (λ j. only (eqb (deal t) j) (f t) + amount f (part ts j)) js (λ j m. part-cons f t ts j)
        ∙ total-add (λ j. only (eqb (deal t) j) (f t)) (λ j. amount f (part ts j)) js
        ∙ ap₂ ◌+◌
        (perm-total (λ j. only (eqb (deal t) j) (f t)) order
        ∙ total_here (deal t) (λ j. f t) 0 k (omega arith) (omega (arith, h t (Memᴰ.head refl))))
        (amount-dealt f ts (λ g m. h g (Memᴰ.tail m)))

    module _ (n : ℕ) (ts : List Tie) (below : (t : Tie) → Memᴰ t ts → deal t < k) where
      parts : List Tie
      parts = together (map (part ts) js)

      dealt : (t : Tie) → Memᴰ t ts → Memᴰ t parts
      unfolding parts
      dealt t m = in_parts ts m (perm_in order (in-stretch 0 k (omega arith) (omega (arith, below t m))))

      amounts : (f : Tie → ℕ) → amount f parts ≡ amount f ts
      unfolding parts
      amounts f = amount-parts f ts js ∙ amount-dealt f ts below

      -- the parts together have the net, and are charged as much
      pub dealt-net : net_of n (together (map (part ts) js)) ≡ net_of n ts
      unfolding parts
      dealt-net = alike-net n parts ts (λ t. parts_in ts js) dealt amounts

      pub dealt-charges : charges (together (map (part ts) js)) ≡ charges ts
      unfolding parts charges amount
      dealt-charges = amounts (λ t. t.rows)

  -- what a part is charged, by the vertices that hold the numbers
  pub part-weights : (held : ℕ → ℕ) → ((t : Tie) → deal t ≡ held (owner t.edge)) → (n : ℕ) (ts : List Tie) → ((t : Tie) → Memᴰ t ts → owner t.edge < n) → (j : ℕ)
      → total (stretch 0 n) (λ x. only (eqb (held x) j) (weight ts x)) ≡ charges (part ts j)
  unfolding weight charges part filtered sum
  part-weights held same n [] h j = sum-nought (λ x. only (eqb (held x) j) 0) (stretch 0 n) (λ x m. either (eqb (held x) j))
    where
      either : (b : Bool) → only b 0 ≡ 0
      either true = refl
      either false = refl
  part-weights held same n (t ∷ ts) h j =
      sum-agree (λ x. only (eqb (held x) j) (weight (t ∷ ts) x)) (λ x. only (eqb (owner t.edge) x) (only (eqb (held x) j) t.rows) + only (eqb (held x) j) (weight ts x)) (stretch 0 n)
      (λ x m. split (eqb (held x) j) (eqb (owner t.edge) x) (weight ts x))
      ∙ total-add (λ x. only (eqb (owner t.edge) x) (only (eqb (held x) j) t.rows)) (λ x. only (eqb (held x) j) (weight ts x)) (stretch 0 n)
      ∙ ap₂ ◌+◌
      (total_here (owner t.edge) (λ x. only (eqb (held x) j) t.rows) 0 n (omega arith) (omega (arith, h t (Memᴰ.head refl))))
      (part-weights held same n ts (λ u m. h u (Memᴰ.tail m)) j)
      ∙ one
    where
      split : (a b : Bool) (w : ℕ) → only a (cond b t.rows 0 + w) ≡ only b (only a t.rows) + only a w
      split true true w = refl
      split true false w = refl
      split false true w = refl
      split false false w = refl

      one : only (eqb (held (owner t.edge)) j) t.rows + charges (part ts j) ≡ charges (part (t ∷ ts) j)
      one =
          rw (sym (same t))
          (test-cases (eqb (deal t) j) (λ (q : eqb (deal t) j ≡ true). rw q refl) (λ (q : eqb (deal t) j ≡ false). rw q (zero-add _)))
