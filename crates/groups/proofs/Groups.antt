-- Groups and their tops, for any set of cuts: the top of x is x or an ancestor, one for just those that uncut links join, and the
-- weight of a group is what its top carries.
-- Assumes nothing.
use mathlib.Core.Path.{◌≡◌, refl, sym, ap, subst, ◌∙◌}
use mathlib.Core.Logic.{◌≢◌, ◌⊎◌, inl, inr, ⊎_elim, by_cases}
use mathlib.Core.Bool.{Bool, true, false, not}
use mathlib.Core.List.Memᴰ
use mathlib.Core.List.{List, [], ◌∷◌, Memᴰ}
use Prim.Native.Nat.{ℕ, zero, suc, ◌+◌, ◌≤◌, ◌<◌}
use native.Mathlib.Decide.{dec_lt, ℕ_discrete}
use native.Mathlib.Omega.{arith}
use lib.Dec.{eqb}
use lib.ListN.{length, get_or}
use borrow.Author.Tests.{eq-eqb, ne_eqb}
use Rattle.game.specs.Table.{sum}
use Rattle.game.specs.Game.{absent}
use Rattle.game.specs.Tree.{ancestors}
use Rattle.game.proofs.Sound.{Sound}
use Rattle.game.proofs.Bools.{test-cases}
use Rattle.game.proofs.Paths.{parent-higher, ancestors-up, ancestors-none}
use Rattle.cut.specs.Cut.{children, carries, climb_to, top, is_top, group_weight}
use Rattle.cut.proofs.Lists.{stretch, stretch-in, sum-agree, sum-nought}
use Rattle.groups.proofs.Sums.{only, total, total-add, total-filtered, total-swap, total_here, total-elsewhere, total-table}
use Rattle.cut.proofs.Carried.{entry, Carrying, uncut_under}

-- the top of x is x or an ancestor of x
pub top-or : (p : List ℕ) (cuts : ℕ → Bool) (x : ℕ) → (top p cuts x ≡ x) ⊎ Memᴰ (top p cuts x) (ancestors p x)
unfolding top
top-or p cuts x = go x (ancestors p x)
  where
    go : (x : ℕ) (ys : List ℕ) → (climb_to cuts x ys ≡ x) ⊎ Memᴰ (climb_to cuts x ys) ys
    go x [] = inl refl
    go x (y ∷ ys) = test-cases (cuts x) (λ e. inl (rw e)) (λ e. inr (rw e (⊎_elim (λ q. Memᴰ.head q) (λ m. Memᴰ.tail m) (go y ys))))

-- a cut vertex is the top of its group
pub top-cut : (p : List ℕ) (cuts : ℕ → Bool) (x : ℕ) → cuts x ≡ true → top p cuts x ≡ x
unfolding top
top-cut p cuts x e = go (ancestors p x)
  where
    go : (ys : List ℕ) → climb_to cuts x ys ≡ x
    go [] = refl
    go (y ∷ ys) = rw e

module _ {p : List ℕ} (s : Sound p) (u : length p ≤ absent) where
  -- a vertex without a parent is the top of its group
  pub top-root : (cuts : ℕ → Bool) (x : ℕ) → (get_or p x absent < length p → ⊥) → top p cuts x ≡ x
  unfolding top
  top-root cuts x h = rw (ancestors-none s u x (omega arith))

  -- an uncut link joins two of one group
  pub top_up : (cuts : ℕ → Bool) (x : ℕ) → get_or p x absent < length p → cuts x ≡ false → top p cuts x ≡ top p cuts (get_or p x absent)
  unfolding top
  top_up cuts x h e = rw (ancestors-up s u x h, e)

-- x hangs on nothing: it has no parent, or is cut
abbrev pub Loose : List ℕ → (ℕ → Bool) → ℕ → Type 0
Loose p cuts x = (get_or p x absent < length p → ⊥) ⊎ (cuts x ≡ true)

module _ {p : List ℕ} (s : Sound p) (u : length p ≤ absent) (cuts : ℕ → Bool) where
  pub loose-top : (x : ℕ) → Loose p cuts x → top p cuts x ≡ x
  loose-top x (inl h) = top-root s u cuts x h
  loose-top x (inr e) = top-cut p cuts x e

  -- x is loose, or of its parent's group
  loose-cases : {A : Type 0} (x : ℕ) → (Loose p cuts x → A) → (get_or p x absent < length p → cuts x ≡ false → A) → A
  loose-cases x f g =
      by_cases (dec_lt (get_or p x absent) (length p)) (λ h. test-cases (cuts x) (λ e. f (inr e)) (λ e. g h e)) (λ h. f (inl h))

  pub record TopOf (x : ℕ) : Type 0 where
    pub above : x ≤ top p cuts x
    pub inside : top p cuts x < length p
    pub loose : Loose p cuts (top p cuts x)

  climbed : (k x : ℕ) → length p ≤ x + k → x < length p → TopOf x
  climbed zero x h l = absurd (omega arith)
  climbed (suc k) x h l =
      loose-cases x
      (λ o. rw-self (loose-top x o) o)
      (λ g e. let q = parent-higher s u x g in up g e (climbed k (get_or p x absent) (omega arith) g))
    where
      rw-self : top p cuts x ≡ x → Loose p cuts x → TopOf x
      rw-self e o = record { above = omega arith; inside = omega arith; loose = rw e o }

      up : get_or p x absent < length p → cuts x ≡ false → TopOf (get_or p x absent) → TopOf x
      up g e t =
          let f : top p cuts x ≡ top p cuts (get_or p x absent) = top_up s u cuts x g e in
          record { above = omega (arith, f, t.above, (parent-higher s u x g).0); inside = omega (arith, f, t.inside); loose = rw f t.loose }

  -- the top of x is not below x, is of the table, and hangs on nothing
  pub top-of : (x : ℕ) → x < length p → TopOf x
  top-of x l = climbed (length p) x (omega arith) l

  pub top-top : (x : ℕ) → x < length p → top p cuts (top p cuts x) ≡ top p cuts x
  top-top x l = loose-top (top p cuts x) (top-of x l).loose

  -- only what hangs on nothing is its own top
  pub top-loose : (x : ℕ) → x < length p → top p cuts x ≡ x → Loose p cuts x
  top-loose x l e = rw e at (top-of x l).loose

  is_top-true : (x : ℕ) → Loose p cuts x → is_top p cuts x ≡ true
  unfolding is_top
  is_top-true x o = eq-eqb (top p cuts x) x (loose-top x o)

  is_top-false : (x : ℕ) → get_or p x absent < length p → cuts x ≡ false → is_top p cuts x ≡ false
  unfolding is_top
  is_top-false x h e =
      let q = parent-higher s u x h in
      ne_eqb (top p cuts x) x (λ (f : top p cuts x ≡ x). omega (arith, top_up s u cuts x h e, (top-of (get_or p x absent) h).above))

-- what uncut links join: "A group is what remains connected"
pub data Joined (p : List ℕ) (cuts : ℕ → Bool) (x : ℕ) : ℕ → Type 0 where
  here : Joined p cuts x x
  up : {y : ℕ} → Joined p cuts x y → get_or p y absent < length p → cuts y ≡ false → Joined p cuts x (get_or p y absent)
  down : {y : ℕ} → Joined p cuts x (get_or p y absent) → get_or p y absent < length p → cuts y ≡ false → Joined p cuts x y

module _ {p : List ℕ} (s : Sound p) (u : length p ≤ absent) (cuts : ℕ → Bool) where
  -- what is joined has one top
  pub joined-top : {x y : ℕ} → Joined p cuts x y → top p cuts x ≡ top p cuts y
  joined-top here = refl
  joined-top (up {y = y} j h e) = joined-top j ∙ top_up s u cuts y h e
  joined-top (down {y = y} j h e) = joined-top j ∙ sym (top_up s u cuts y h e)

  to-top : (k x : ℕ) → length p ≤ x + k → x < length p → {z : ℕ} → Joined p cuts z x → Joined p cuts z (top p cuts x)
  to-top zero x h l j = absurd (omega arith)
  to-top (suc k) x h l {z} j =
      loose-cases s u cuts x
      (λ o. rw (loose-top s u cuts x o) j)
      (λ g e. rw (top_up s u cuts x g e) (to-top k (get_or p x absent) (omega (arith, parent-higher s u x g)) g (up j g e)))

  from-top : (k x : ℕ) → length p ≤ x + k → x < length p → {z : ℕ} → Joined p cuts z (top p cuts x) → Joined p cuts z x
  from-top zero x h l j = absurd (omega arith)
  from-top (suc k) x h l {z} j =
      loose-cases s u cuts x
      (λ o. rw (loose-top s u cuts x o) at j)
      (λ g e. down (from-top k (get_or p x absent) (omega (arith, parent-higher s u x g)) g (rw (top_up s u cuts x g e) at j)) g e)

  -- what has one top is joined
  pub top-joined : (x y : ℕ) → x < length p → y < length p → top p cuts x ≡ top p cuts y → Joined p cuts x y
  top-joined x y l h e =
      from-top (length p) y (omega arith) h
      (subst (Joined p cuts x) e (to-top (length p) x (omega arith) l here))

module _ {p : List ℕ} (s : Sound p) (u : length p ≤ absent) (cuts : ℕ → Bool) (y : ℕ) where
  between : (k x : ℕ) → length p ≤ x + k → x < length p → Memᴰ y (ancestors p x) → top p cuts x ≢ top p cuts y
      → (cuts (top p cuts x) ≡ true) × Memᴰ y (ancestors p (top p cuts x))
  between zero x h l m d = absurd (omega arith)
  between (suc k) x h l m d =
      loose-cases s u cuts x
      (λ o. rw (loose-top s u cuts x o) (stays o))
      (λ g e.
      rw (top_up s u cuts x g e)
      (⊎_elim
      (λ q. absurd (d (top_up s u cuts x g e ∙ ap (top p cuts) (sym q))))
      (λ i. between k (get_or p x absent) (omega (arith, parent-higher s u x g)) g i (λ q. d (top_up s u cuts x g e ∙ q)))
      (Memᴰ.cases_cons (rw (ancestors-up s u x g) at m))))
    where
      stays : Loose p cuts x → (cuts x ≡ true) × Memᴰ y (ancestors p x)
      stays (inl g) = absurd (Memᴰ.not-nil (rw (ancestors-none s u x (omega arith)) at m))
      stays (inr e) = (e, m)

  -- an ancestor of x that is of another group stands above the top of x, and the top is cut
  pub top-between : (x : ℕ) → x < length p → Memᴰ y (ancestors p x) → top p cuts x ≢ top p cuts y
      → (cuts (top p cuts x) ≡ true) × Memᴰ y (ancestors p (top p cuts x))
  top-between x l m d = between (length p) x (omega arith) l m d

only-add : (b : Bool) (m n : ℕ) → only b (m + n) ≡ only b m + only b n
only-add true m n = refl
only-add false m n = refl

only-split : (b : Bool) (m : ℕ) → m ≡ only b m + only (not b) m
only-split true m = omega arith
only-split false m = omega arith

only-swap : (a b : Bool) (m : ℕ) → only a (only b m) ≡ only b (only a m)
only-swap true b m = refl
only-swap false true m = refl
only-swap false false m = refl

only-nought : (b : Bool) → only b 0 ≡ 0
only-nought true = refl
only-nought false = refl

only-total : (b : Bool) (f : ℕ → ℕ) (ys : List ℕ) → only b (total ys f) ≡ total ys (λ y. only b (f y))
only-total true f ys = refl
only-total false f ys = sym (sum-nought (λ y. 0) ys (λ z m. refl))

-- Ranks are chosen so that an uncut link joins two that are chosen or two that are not: whole groups are chosen. What they weigh is
-- what their tops carry.
module _ {p : List ℕ} (s : Sound p) (u : length p ≤ absent) {cuts : ℕ → Bool} (chosen : ℕ → Bool)
    (joined : (x : ℕ) → get_or p x absent < length p → cuts x ≡ false → chosen x ≡ chosen (get_or p x absent)) where
  ranks : List ℕ
  ranks = stretch 0 (length p)

  module _ (c : ℕ → ℕ) where
    -- what y hands to the ranks x
    hands : ℕ → ℕ → ℕ
    hands x y = only (chosen x) (only (eqb (get_or p y absent) x) (only (not (cuts y)) (c y)))

    received : (x : ℕ) → only (chosen x) (total (uncut_under p cuts x) c) ≡ total ranks (hands x)
    unfolding children ranks hands
    received x =
        ap (only (chosen x)) (total-filtered (λ y. not (cuts y)) c (children p x) ∙ total-filtered (λ y. eqb (get_or p y absent) x) (λ y. only (not (cuts y)) (c y)) ranks)
        ∙ only-total (chosen x) (λ y. only (eqb (get_or p y absent) x) (only (not (cuts y)) (c y))) ranks

    handed : (y : ℕ) → total ranks (λ x. hands x y) ≡ only (not (is_top p cuts y)) (only (chosen y) (c y))
    unfolding ranks hands
    handed y =
        sum-agree (λ x. hands x y) (λ x. only (eqb q x) (only (chosen x) (only (not (cuts y)) (c y)))) ranks
        (λ x m. only-swap (chosen x) (eqb q x) (only (not (cuts y)) (c y)))
        ∙ loose-cases s u cuts y
        (λ o. loose o ∙ sym (ap (λ (b : Bool). only (not b) (only (chosen y) (c y))) (is_top-true s u cuts y o)))
        (λ h e. linked h e ∙ sym (ap (λ (b : Bool). only (not b) (only (chosen y) (c y))) (is_top-false s u cuts y h e)))
      where
        q : ℕ
        q = get_or p y absent

        loose : Loose p cuts y → total ranks (λ x. only (eqb q x) (only (chosen x) (only (not (cuts y)) (c y)))) ≡ 0
        loose (inl h) =
            total-elsewhere q (λ x. only (chosen x) (only (not (cuts y)) (c y))) ranks (λ x m (e : q ≡ x). omega (arith, e, h, (stretch-in 0 (length p) m).1))
        loose (inr e) =
            sum-nought (λ x. only (eqb q x) (only (chosen x) (only (not (cuts y)) (c y)))) ranks
            (λ x m. rw (e, only-nought, only-nought))

        linked : q < length p → cuts y ≡ false → total ranks (λ x. only (eqb q x) (only (chosen x) (only (not (cuts y)) (c y)))) ≡ only (chosen y) (c y)
        linked h e =
            rw e
            (total_here q (λ x. only (chosen x) (c y)) 0 (length p) (omega arith) (omega (arith, h)) ∙ ap (λ (b : Bool). only b (c y)) (sym (joined y h e)))

  -- the weight of the chosen ranks is what the chosen tops carry
  pub chosen-weight : {w : List ℕ} {c : ℕ → ℕ} → Carrying p w cuts c
      → total (stretch 0 (length p)) (λ x. only (chosen x) (get_or w x 0)) ≡ total (stretch 0 (length p)) (λ x. only (is_top p cuts x) (only (chosen x) (c x)))
  unfolding ranks carries
  chosen-weight {w} {c} k = omega (arith, parts, split, exchange)
    where
      tops : ℕ → ℕ
      tops x = only (is_top p cuts x) (only (chosen x) (c x))

      others : ℕ → ℕ
      others x = only (not (is_top p cuts x)) (only (chosen x) (c x))

      weight : ℕ → ℕ
      weight x = only (chosen x) (get_or w x 0)

      inner : ℕ → ℕ
      inner x = only (chosen x) (total (uncut_under p cuts x) c)

      parts : total ranks (λ x. only (chosen x) (c x)) ≡ total ranks weight + total ranks inner
      parts =
          sum-agree (λ x. only (chosen x) (c x)) (λ x. weight x + inner x) ranks
          (λ x m. ap (only (chosen x)) (k.each x (omega (arith, (stretch-in 0 (length p) m).1))) ∙ only-add (chosen x) (get_or w x 0) (total (uncut_under p cuts x) c))
          ∙ total-add weight inner ranks

      split : total ranks (λ x. only (chosen x) (c x)) ≡ total ranks tops + total ranks others
      split =
          sum-agree (λ x. only (chosen x) (c x)) (λ x. tops x + others x) ranks (λ x m. only-split (is_top p cuts x) (only (chosen x) (c x)))
          ∙ total-add tops others ranks

      exchange : total ranks inner ≡ total ranks others
      exchange =
          sum-agree inner (λ x. total ranks (hands c x)) ranks (λ x m. received c x)
          ∙ total-swap (hands c) ranks ranks
          ∙ sum-agree (λ y. total ranks (λ x. hands c x y)) others ranks (λ y m. handed c y)

module _ {p w : List ℕ} (s : Sound p) (u : length p ≤ absent) {cuts : ℕ → Bool} {c : ℕ → ℕ} (k : Carrying p w cuts c) where
  -- the tops carry the whole weight
  pub tops-weight : length w ≡ length p → total (stretch 0 (length p)) (λ x. only (is_top p cuts x) (c x)) ≡ sum w
  tops-weight e = sym (chosen-weight s u (λ _. true) (λ x h f. refl) k) ∙ rw (← e) (total-table w)

  -- a group weighs what its top carries
  pub group-weight : (t : ℕ) → t < length p → top p cuts t ≡ t → group_weight p w cuts t ≡ c t
  unfolding group_weight is_top
  group-weight t l e =
      total-filtered (λ x. eqb (top p cuts x) t) (entry w) (stretch 0 (length p))
      ∙ chosen-weight s u (λ x. eqb (top p cuts x) t) (λ x h f. ap (λ (v : ℕ). eqb v t) (top_up s u cuts x h f)) k
      ∙ sum-agree (λ x. only (is_top p cuts x) (only (eqb (top p cuts x) t) (c x))) (λ x. only (eqb t x) (c x)) (stretch 0 (length p))
      (λ x m. by_cases (ℕ_discrete x t) here (elsewhere x))
      ∙ total_here t c 0 (length p) (omega arith) (omega arith)
    where
      here : {x : ℕ} → x ≡ t → only (is_top p cuts x) (only (eqb (top p cuts x) t) (c x)) ≡ only (eqb t x) (c x)
      here {x} q = rw (q, eq-eqb (top p cuts t) t e, eq-eqb t t refl)

      elsewhere : (x : ℕ) → x ≢ t → only (is_top p cuts x) (only (eqb (top p cuts x) t) (c x)) ≡ only (eqb t x) (c x)
      elsewhere x d =
          rw (ne_eqb t x (λ f. d (sym f)))
          (by_cases (ℕ_discrete (top p cuts x) x)
          (λ (f : top p cuts x ≡ x). rw (ne_eqb (top p cuts x) t (λ g. d (sym f ∙ g))) (only-nought (is_top p cuts x)))
          (λ f. ap (λ (b : Bool). only b (only (eqb (top p cuts x) t) (c x))) (ne_eqb (top p cuts x) x f)))
