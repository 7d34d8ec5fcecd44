-- Summing a table up along the forest, by rising rank: each vertex, once what is taken off there is off, adds its entry to its
-- parent's. What results is balanced, and no other table is.
-- Assumes nothing.
use mathlib.Core.Path.{◌≡◌, refl, sym, ap, ◌∙◌}
use mathlib.Core.Logic.{◌≢◌, ⊎_elim, by_cases}
use mathlib.Core.List.{List, [], ◌∷◌}
use Prim.Native.Nat.{ℕ, zero, suc, ◌+◌, ◌-◌, ◌^◌, ◌≤◌, ◌<◌}
use native.Mathlib.Nat.{add-zero, le_refl}
use native.Mathlib.Numerals.{add-one}
use native.Mathlib.Decide.{ℕ_discrete}
use native.Mathlib.Omega.{arith}
use lib.ListN.{length, get_or, set, take, drop, length-set}
use lib.Seq.{get_or-set_same, get_or-set_other, set-get_or, drop-set-lt, take-nil}
use Rattle.game.specs.Game.{absent}
use Rattle.game.specs.Table.{sum, tabulate}
use Rattle.game.proofs.Tables.{sum_drop, sum-end, sum-drop-set, sum-drop-entry, tabulate-unique}
use Rattle.game.proofs.Sound.{Sound, sound-parent, get_d_default}
use Rattle.refusal.specs.Limits.{max_edges}
use Rattle.reach_slots.specs.Balance.{entry_of, child_sum, Balanced, Summable, Subtrees}
use Rattle.reach_slots.proofs.Children.{child_sum-here, child_sum-other, child_sum-ext}

sum-take : (t : List ℕ) (i : ℕ) → sum (take (suc i) t) ≡ sum (take i t) + get_or t i 0
unfolding sum
sum-take [] zero = refl
sum-take [] (suc i) = refl
sum-take (x ∷ t) zero = omega arith
sum-take (x ∷ t) (suc i) = omega (arith, sum-take t i)

-- the vertices below i are summed up, and their parents have got what they have
pub record Summed (p own less : List ℕ) (i : ℕ) (t : List ℕ) : Type 0 where
  pub entries : length t ≡ length p
  pub past : (x : ℕ) → x < i → get_or t x 0 + get_or less x 0 ≡ get_or own x 0 + child_sum p (entry_of t) x x
  pub next : (x : ℕ) → i ≤ x → x < length p → get_or t x 0 ≡ get_or own x 0 + child_sum p (entry_of t) i x
  pub total : sum (drop i t) + child_sum p (entry_of t) i absent + sum (take i less) ≡ sum own

-- the table at first is each vertex's own share
pub summed-first : {p own : List ℕ} (less : List ℕ) → length own ≡ length p → Summed p own less 0 own
unfolding child_sum sum
summed-first less e = record { entries = e; past = λ x h. absurd (omega arith); next = λ x h l. omega arith; total = omega arith }

-- at last it is balanced
summed-balanced : {p own less t : List ℕ} → Summed p own less (length p) t → Balanced p own less (entry_of t)
summed-balanced d = record { each = λ x h. d.past x h }

-- and where nothing was taken off, the roots have all of it
summed-roots : {p own t : List ℕ} → Summed p own [] (length p) t → child_sum p (entry_of t) (length p) absent ≡ sum own
unfolding sum
summed-roots {p} {own} {t} d =
    omega (arith, d.total, sum-end t (length p) (rw d.entries (le_refl (length p))), ap sum (take-nil {A = ℕ} (length p)))

-- so the table then has the counts of the subtrees
pub summed-subtrees : {p own t : List ℕ} {i : ℕ} → Summable p own → i ≡ length p → Summed p own [] i t → Subtrees p own (entry_of t) (sum own)
summed-subtrees {p} {own} {t} g e d =
    let s = g.short in
    let last : Summed p own [] (length p) t = rw e at d in
    record { sound = g.sound; short = omega arith; counts = g.entries; balance = summed-balanced last; roots = summed-roots last }

-- v is what i has, and has been added at its parent
record Pushed (p t t' : List ℕ) (i v : ℕ) : Type 0 where
  entries : length t' ≡ length t
  self : get_or t' i 0 ≡ v
  parent : get_or p i absent < length p → get_or t' (get_or p i absent) 0 ≡ get_or t (get_or p i absent) 0 + v
  others : (x : ℕ) → x ≢ i → x ≢ get_or p i absent → get_or t' x 0 ≡ get_or t x 0
  rest : sum (drop (i + 1) t') + child_sum p (entry_of t') (i + 1) absent ≡ sum (drop (i + 1) t) + child_sum p (entry_of t) i absent + v

module _ {p own less t t' : List ℕ} {i v : ℕ} (s : Sound p) (n : length p ≤ absent) (h : i < length p) (d : Summed p own less i t)
    (e : v + get_or less i 0 ≡ get_or t i 0) (c : Pushed p t t' i v) where
  -- the parent is above
  higher : i < get_or p i absent
  higher = ⊎_elim (λ a. rw a (omega arith)) (λ b. b.0) (s.each i h)

  below : (x : ℕ) → x < i → get_or t' x 0 ≡ get_or t x 0
  below x l = c.others x (omega arith) (λ q. omega (arith, higher))

  sums-below : (j x : ℕ) → j ≤ i → child_sum p (entry_of t') j x ≡ child_sum p (entry_of t) j x
  sums-below j x l = child_sum-ext p (entry_of t') (entry_of t) j x (λ y b. below y (omega arith))

  past' : (x : ℕ) → x < i + 1 → get_or t' x 0 + get_or less x 0 ≡ get_or own x 0 + child_sum p (entry_of t') x x
  past' x l =
      by_cases (ℕ_discrete x i)
      (λ (q : x ≡ i). rw q (omega (arith, c.self, d.next i (le_refl i) h, sums-below i i (le_refl i))))
      (λ (q : x ≢ i). omega (arith, below x (omega arith), d.past x (omega arith), sums-below x x (omega arith)))

  next' : (x : ℕ) → i + 1 ≤ x → x < length p → get_or t' x 0 ≡ get_or own x 0 + child_sum p (entry_of t') (i + 1) x
  next' x a l =
      let old : get_or t x 0 ≡ get_or own x 0 + child_sum p (entry_of t) i x = d.next x (omega arith) l in
      by_cases (ℕ_discrete (get_or p i absent) x)
      (λ (q : get_or p i absent ≡ x).
      let new : get_or t' x 0 ≡ get_or t x 0 + v = rw q at (c.parent (rw q l)) in
      omega (arith, child_sum-here p (entry_of t') i x q, sums-below i x (le_refl i), c.self))
      (λ (q : get_or p i absent ≢ x).
      omega (arith, child_sum-other p (entry_of t') i x q, sums-below i x (le_refl i), c.others x (omega arith) (λ f. q (sym f))))

  summed-push : Summed p own less (i + 1) t'
  summed-push =
      let some : i < length t = rw d.entries h in
      record {
        entries = c.entries ∙ d.entries;
        past = past';
        next = next';
        total = omega (arith, c.rest, d.total, sum_drop t i some, rw (← (add-one i)) at (sum-take less i));
      }

module _ {p own less t : List ℕ} {i : ℕ} (v : ℕ) (s : Sound p) (n : length p ≤ absent) (h : i < length p) (d : Summed p own less i t)
    (e : v + get_or less i 0 ≡ get_or t i 0) where
  some : i < length t
  some = rw d.entries h

  -- a root: nothing is added anywhere
  summed-root : get_or p i absent ≡ absent → Summed p own less (i + 1) (set t i v)
  summed-root a =
      summed-push s n h d e
      (record {
        entries = length-set t i v;
        self = get_or-set_same t i v 0 some;
        parent = λ l. absurd (omega arith);
        others = λ x f q. get_or-set_other t i x v 0 f;
        rest =
            omega (
              arith,
              ap sum (drop-set-lt (i + 1) t i v (omega arith)),
              child_sum-here p (entry_of (set t i v)) i absent a,
              child_sum-ext p (entry_of (set t i v)) (entry_of t) i absent (λ c l. get_or-set_other t i c v 0 (λ f. omega arith)),
              get_or-set_same t i v 0 some,
            );
      })

  -- a vertex with a parent
  summed-child : get_or p i absent ≢ absent → Summed p own less (i + 1) (set (set t i v) (get_or p i absent) (get_or (set t i v) (get_or p i absent) 0 + v))
  summed-child a =
      summed-push s n h d e
      (record {
        entries = length-set t₁ q u ∙ length-set t i v;
        self = get_or-set_other t₁ q i u 0 (λ f. omega (arith, up)) ∙ get_or-set_same t i v 0 some;
        parent = λ l. get_or-set_same t₁ q u 0 inside ∙ ap (λ z. z + v) (get_or-set_other t i q v 0 (λ f. omega (arith, up)));
        others = λ x f g. get_or-set_other t₁ q x u 0 g ∙ get_or-set_other t i x v 0 f;
        rest =
            omega (
              arith,
              sum-drop-set t₁ (i + 1) q u (omega (arith, up)) inside,
              ap sum (drop-set-lt (i + 1) t i v (omega arith)),
              child_sum-other p (entry_of (set t₁ q u)) i absent a,
              child_sum-ext p (entry_of (set t₁ q u)) (entry_of t) i absent
                  (λ c l. get_or-set_other t₁ q c u 0 (λ f. omega (arith, up)) ∙ get_or-set_other t i c v 0 (λ f. omega arith)),
            );
      })
    where
      q : ℕ
      q = get_or p i absent

      up : (i < get_or p i absent) × (get_or p i absent < length p)
      up = sound-parent s i h a

      t₁ : List ℕ
      t₁ = set t i v

      u : ℕ
      u = get_or (set t i v) (get_or p i absent) 0 + v

      inside : get_or p i absent < length (set t i v)
      inside = rw (length-set, d.entries) up.1

module _ {p own less t : List ℕ} {i : ℕ} (d : Summed p own less i t) where
  -- what the parent has and what is added there are within the sum of all shares
  summed-fits : {q : ℕ} → i < q → i < length t → get_or t i 0 + get_or t q 0 ≤ sum own
  summed-fits {q} h l = omega (arith, d.total, sum_drop t i l, sum-drop-entry t (i + 1) q (omega arith))

  -- a balanced function is what the table has below i
  module _ {f : ℕ → ℕ} (b : Balanced p own less f) where
    upto : (k x : ℕ) → x < k → k ≤ i → k ≤ length p → get_or t x 0 ≡ f x
    upto zero x h l m = absurd (omega arith)
    upto (suc k) x h l m =
        let rest : child_sum p (entry_of t) x x ≡ child_sum p f x x = child_sum-ext p (entry_of t) f x x (λ c a. upto k c (omega arith) (omega arith) (omega arith)) in
        omega (arith, d.past x (omega arith), b.each x (omega arith))

    -- so what is to be taken off at i is there
    summed-enough : i < length p → get_or less i 0 ≤ get_or t i 0
    summed-enough h =
        omega (
          arith,
          d.next i (le_refl i) h,
          b.each i h,
          child_sum-ext p (entry_of t) f i i (λ c a. upto i c a (le_refl i) (omega arith)),
        )

    -- and at last they are the same
    summed_same : i ≡ length p → (x : ℕ) → x < length p → get_or t x 0 ≡ f x
    summed_same e x h = upto i x (omega arith) (le_refl i) (omega arith)

-- the turn of a loop at i, which has come to v there, with the parent as it is read
module _ {p own less t : List ℕ} {i : ℕ} (v : ℕ) (g : Summable p own) (h : i < length p) (d : Summed p own less i t)
    (e : v + get_or less i 0 ≡ get_or t i 0) where
  short : length p ≤ absent
  short = let s = g.short in omega arith

  read : get_or p i 0 ≡ get_or p i absent
  read = get_d_default p i 0 absent h

  -- a root is done
  pub turn-root : get_or p i 0 ≡ absent → Summed p own less (i + 1) (set t i v)
  turn-root a = summed-root v g.sound short h d e (sym read ∙ a)

  module _ (a : get_or p i 0 ≢ absent) where
    higher-inside : (i < get_or p i 0) × (get_or p i 0 < length t)
    higher-inside = rw (read, d.entries) (sound-parent g.sound i h (λ b. a (read ∙ b)))

    -- v can be added at the parent
    pub turn-fits : (get_or p i 0 < length (set t i v)) × (get_or (set t i v) (get_or p i 0) 0 + v < 2 ^ 32)
    turn-fits =
        let (up, inside) = higher-inside in
        let few : sum own ≤ max_edges = g.few in (
          simp length-set inside,
          rw (get_or-set_other t i (get_or p i 0) v 0 (λ q. omega arith)) (omega (arith, summed-fits d up (rw d.entries h))),
        )

    -- v is added there
    pub turn-child : {t' : List ℕ} → t' ≡ set (set t i v) (get_or p i 0) (get_or (set t i v) (get_or p i 0) 0 + v) → Summed p own less (i + 1) t'
    turn-child q = rw (q, read) (summed-child v g.sound short h d e (λ b. a (read ∙ b)))

-- where nothing is taken off, the entry of i stays
module _ {p own t : List ℕ} {i : ℕ} (g : Summable p own) (h : i < length p) (d : Summed p own [] i t) where
  same : get_or t i 0 + get_or {A = ℕ} [] i 0 ≡ get_or t i 0
  same = add-zero (get_or t i 0)

  -- a root is done
  pub keep-root : get_or p i 0 ≡ absent → Summed p own [] (i + 1) t
  keep-root a = rw (set-get_or t i 0) at (turn-root (get_or t i 0) g h d same a)

  -- the entry can be added at the parent
  pub keep-fits : get_or p i 0 ≢ absent → (get_or p i 0 < length t) × (get_or t (get_or p i 0) 0 + get_or t i 0 < 2 ^ 32)
  keep-fits a = rw (set-get_or t i 0) at (turn-fits (get_or t i 0) g h d same a)

  -- the entry is added there
  pub keep-child : {t' : List ℕ} → get_or p i 0 ≢ absent → t' ≡ set t (get_or p i 0) (get_or t (get_or p i 0) 0 + get_or t i 0) → Summed p own [] (i + 1) t'
  keep-child a q = turn-child (get_or t i 0) g h d same a (rw (set-get_or t i 0) q)

-- where some table balances, what is to be taken off at i is there
pub turn-less : {p own less t : List ℕ} {i : ℕ} {f : ℕ → ℕ} → Balanced p own less f → i < length p → Summed p own less i t
    → (get_or less i 0 ≤ get_or t i 0) × (get_or t i 0 - get_or less i 0 + get_or less i 0 ≡ get_or t i 0)
turn-less b h d = let l = summed-enough d b h in (l, omega arith)

-- and the table comes to be that one
pub turn_last : {p own less t : List ℕ} {i : ℕ} {f : ℕ → ℕ} → i ≡ length p → Summed p own less i t → Balanced p own less f → t ≡ tabulate (length p) f
turn_last {p} {t = t} {f = f} e d b = tabulate-unique (length p) f t 0 d.entries (summed_same d b e)
