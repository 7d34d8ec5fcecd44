-- What each rank carries: its own weight and what its uncut children carry. Children stand lower than their parent, so the table that
-- is made by going up the ranks meets this equation, and is the only one that does. The cutting of document 01 leaves each vertex the
-- children that it keeps.
-- Assumes nothing.
use mathlib.Core.Path.{◌≡◌, refl, sym, ap, ◌∙◌}
use mathlib.Core.Logic.{⊎_elim, by_cases}
use mathlib.Core.Bool.{Bool, false, not}
use mathlib.Core.List.{List, [], Memᴰ}
use Prim.Native.Nat.{ℕ, zero, suc, ◌≤◌, ◌<◌}
use native.Mathlib.Nat.{le_refl}
use native.Mathlib.Decide.{dec_lt, le_ind}
use native.Mathlib.Omega.{arith}
use lib.Dec.{eqb}
use lib.ListN.{length, get_or, length-append, get_or-append}
use lib.Seq.{get_or_at, ext_get_or}
use borrow.Author.Tests.{eqb-true, eq-eqb, lt-ltb, le-ltb, not-true, not-false}
use Rattle.game.specs.Table.{tabulate, member, filtered}
use Rattle.game.specs.Game.{absent}
use Rattle.game.proofs.Sound.{Sound}
use Rattle.game.proofs.Tables.{member-in, in-member}
use Rattle.game.proofs.Lists.{Rising, filtered-in, in-filtered, rising-filtered, rising-ext}
use Rattle.cut.specs.Cut.{children_below, children, carries, carried_below, carried_under, kept, carried, cut}
use Rattle.cut.proofs.Lists.{stretch-rising, stretch-in, in-stretch}
use Rattle.cut.proofs.Trimming.{carries-agree, trim-in, trim-rising, trim-agree, trim-fits, trim-keeps}

-- a table as a rule
abbrev pub entry : List ℕ → ℕ → ℕ
entry t x = get_or t x 0

module _ (p : List ℕ) where
  pub below_in : (m x : ℕ) {z : ℕ} → Memᴰ z (children_below p m x) → (z < m) × (get_or p z absent ≡ x)
  unfolding children_below
  below_in m x {z} k =
      let i = filtered-in (λ (y : ℕ). eqb (get_or p y absent) x) (tabulate m (λ (y : ℕ). y)) k in
      (omega (arith, (stretch-in 0 m i.0).1), eqb-true (get_or p z absent) x i.1)

  pub in-below : (m x : ℕ) {z : ℕ} → z < m → get_or p z absent ≡ x → Memᴰ z (children_below p m x)
  unfolding children_below
  in-below m x {z} l e =
      in-filtered (λ (y : ℕ). eqb (get_or p y absent) x) (in-stretch 0 m (omega arith) (omega arith)) (eq-eqb (get_or p z absent) x e)

  pub below-rising : (m x : ℕ) → Rising 0 (children_below p m x)
  unfolding children_below
  below-rising m x = rising-filtered (λ (y : ℕ). eqb (get_or p y absent) x) (stretch-rising 0 m)

  pub children-in : (x : ℕ) {z : ℕ} → Memᴰ z (children p x) → (z < length p) × (get_or p z absent ≡ x)
  unfolding children
  children-in x m = below_in (length p) x m

  pub in-children : (x : ℕ) {z : ℕ} → z < length p → get_or p z absent ≡ x → Memᴰ z (children p x)
  unfolding children
  in-children x l e = in-below (length p) x l e

  pub children-rising : (x : ℕ) → Rising 0 (children p x)
  unfolding children
  children-rising x = below-rising (length p) x

-- a rule that names uncut children: they are lower, and it goes by what lower ranks carry
pub record Lower (n : ℕ) (uncut : (ℕ → ℕ) → ℕ → List ℕ) : Type 0 where
  pub lower : (c : ℕ → ℕ) (x : ℕ) → x < n → (z : ℕ) → Memᴰ z (uncut c x) → z < x
  pub agree : (c d : ℕ → ℕ) (x : ℕ) → x < n → ((y : ℕ) → y < x → c y ≡ d y) → uncut c x ≡ uncut d x

module _ (uncut : (ℕ → ℕ) → ℕ → List ℕ) (w : List ℕ) where
  carried-length : (m : ℕ) → length (carried_below uncut w m) ≡ m
  unfolding carried_below
  carried-length zero = refl
  carried-length (suc x) = simp length-append (omega (arith, carried-length x))

  below_last : (x : ℕ) → entry (carried_below uncut w (suc x)) x
      ≡ carries (entry (carried_below uncut w x)) (get_or w x 0) (uncut (entry (carried_below uncut w x)) x)
  unfolding carried_below
  below_last x = get_or_at (carried_below uncut w x) _ [] 0 x (carried-length x)

  below-earlier : (m y : ℕ) → y < m → entry (carried_below uncut w (suc m)) y ≡ entry (carried_below uncut w m) y
  unfolding carried_below
  below-earlier m y l = get_or-append (carried_below uncut w m) _ 0 y (omega (arith, carried-length m))

  below-same : (m y : ℕ) → y < m → (n : ℕ) → m ≤ n → entry (carried_below uncut w n) y ≡ entry (carried_below uncut w m) y
  below-same m y l n h =
      le_ind (λ (k : ℕ). entry (carried_below uncut w k) y ≡ entry (carried_below uncut w m) y) refl (λ k g e. below-earlier k y (omega arith) ∙ e) n h

  -- the table meets the equation of what is carried
  carried_step : (n : ℕ) → Lower n uncut → (x : ℕ) → x < n
      → entry (carried_below uncut w n) x ≡ carries (entry (carried_below uncut w n)) (get_or w x 0) (uncut (entry (carried_below uncut w n)) x)
  carried_step n u x l =
      below-same (suc x) x (le_refl (suc x)) n l ∙ below_last x
      ∙ carries-agree b c (get_or w x 0) (uncut b x) (λ z m. sym (later z (u.lower b x l z m)))
      ∙ ap (carries c (get_or w x 0)) (u.agree b c x l (λ y h. sym (later y h)))
    where
      b : ℕ → ℕ
      b = entry (carried_below uncut w x)

      c : ℕ → ℕ
      c = entry (carried_below uncut w n)

      later : (y : ℕ) → y < x → c y ≡ b y
      later y h = below-same x y h n (omega arith)

pub carried-size : (p w : List ℕ) (B : ℕ) → length (carried p w B) ≡ length p
unfolding carried
carried-size p w B = carried-length (kept p w B) w (length p)

-- the uncut children of x under a set of cuts
abbrev pub uncut_under : List ℕ → (ℕ → Bool) → ℕ → List ℕ
uncut_under p cuts x = filtered (λ (y : ℕ). not (cuts y)) (children p x)

-- c tells what each rank carries under the cuts
pub record Carrying (p w : List ℕ) (cuts : ℕ → Bool) (c : ℕ → ℕ) : Type 0 where
  pub each : (x : ℕ) → x < length p → c x ≡ carries c (get_or w x 0) (uncut_under p cuts x)

module _ {p : List ℕ} (s : Sound p) (u : length p ≤ absent) where
  -- a child stands below its parent
  pub child-lower : (x : ℕ) → x < length p → (z : ℕ) → Memᴰ z (children p x) → z < x
  child-lower x l z m =
      let i = children-in p x m in
      ⊎_elim (λ (e : get_or p z absent ≡ absent). absurd (omega arith)) (λ (b : (z < get_or p z absent) × (get_or p z absent < length p)). omega arith) (s.each z i.0)

  uncut-lower : (cuts : ℕ → Bool) → Lower (length p) (λ (c : ℕ → ℕ) (x : ℕ). uncut_under p cuts x)
  uncut-lower cuts =
      record { lower = λ c x l z m. child-lower x l z (filtered-in (λ (y : ℕ). not (cuts y)) (children p x) m).0; agree = λ c d x l f. refl }

  pub under-carrying : (w : List ℕ) (cuts : ℕ → Bool) → Carrying p w cuts (entry (carried_under p w cuts))
  unfolding carried_under
  under-carrying w cuts = record { each = carried_step (λ (c : ℕ → ℕ) (x : ℕ). uncut_under p cuts x) w (length p) (uncut-lower cuts) }

  -- no two tables are what is carried
  pub carrying-same : {w : List ℕ} {cuts : ℕ → Bool} {c d : ℕ → ℕ} → Carrying p w cuts c → Carrying p w cuts d
      → (x : ℕ) → x < length p → c x ≡ d x
  carrying-same {w} {cuts} {c} {d} a b x l = go (suc x) x (le_refl (suc x)) l
    where
      go : (m y : ℕ) → y < m → y < length p → c y ≡ d y
      go zero y h l = absurd (omega arith)
      go (suc m) y h l =
          a.each y l
          ∙ carries-agree c d (get_or w y 0) (uncut_under p cuts y)
          (λ z k. let v : z < y = (uncut-lower cuts).lower c y l z k in go m z (omega arith) (omega arith))
          ∙ sym (b.each y l)

-- document 01's cutting
module _ {p : List ℕ} (s : Sound p) (u : length p ≤ absent) (w : List ℕ) (B : ℕ) where
  -- the children that x keeps are children of x
  pub kept_in : (c : ℕ → ℕ) (x : ℕ) {z : ℕ} → Memᴰ z (kept p w B c x) → Memᴰ z (children p x)
  unfolding kept
  kept_in c x m = trim-in c B (get_or w x 0) (length (children p x)) (children-rising p x) m

  kept-rising : (c : ℕ → ℕ) (x : ℕ) → Rising 0 (kept p w B c x)
  unfolding kept
  kept-rising c x = trim-rising c B (get_or w x 0) (length (children p x)) (children-rising p x)

  -- which they are goes by what the children carry alone
  kept-agree : (c d : ℕ → ℕ) (x : ℕ) → x < length p → ((y : ℕ) → y < x → c y ≡ d y) → kept p w B c x ≡ kept p w B d x
  unfolding kept
  kept-agree c d x l f = trim-agree c d B (get_or w x 0) (length (children p x)) (children-rising p x) (λ z m. f z (child-lower s u x l z m))

  kept-lower : Lower (length p) (kept p w B)
  kept-lower = record { lower = λ c x l z m. child-lower s u x l z (kept_in c x m); agree = kept-agree }

  -- each rank carries its weight and what the children that it keeps carry
  pub kept_step : (x : ℕ) → x < length p → entry (carried p w B) x ≡ carries (entry (carried p w B)) (get_or w x 0) (kept p w B (entry (carried p w B)) x)
  unfolding carried
  kept_step = carried_step (kept p w B) w (length p) kept-lower

  -- a child is cut if its parent does not keep it
  pub cut-child : (x : ℕ) → x < length p → {z : ℕ} → Memᴰ z (children p x) → cut p w B z ≡ not (member z (kept p w B (entry (carried p w B)) x))
  unfolding cut
  cut-child x l {z} m = rw ((children-in p x m).1, lt-ltb x (length p) l)

  uncut-kept : (x : ℕ) → x < length p → uncut_under p (cut p w B) x ≡ kept p w B (entry (carried p w B)) x
  uncut-kept x l =
      rising-ext (rising-filtered t (children-rising p x)) (kept-rising (entry (carried p w B)) x)
      (λ z m. let i = filtered-in t (children p x) m in member-in z ks (not-false (member z ks) (sym (cut-child x l i.0) ∙ not-true (cut p w B z) i.1)))
      (λ z m. let i = kept_in (entry (carried p w B)) x m in in-filtered t i (ap not (cut-child x l i ∙ ap not (in-member m))))
    where
      t : ℕ → Bool
      t y = not (cut p w B y)

      ks : List ℕ
      ks = kept p w B (entry (carried p w B)) x

  pub greedy-carrying : Carrying p w (cut p w B) (entry (carried p w B))
  greedy-carrying = record { each = λ x l. kept_step x l ∙ ap (carries (entry (carried p w B)) (get_or w x 0)) (sym (uncut-kept x l)) }

  -- the table is what each rank carries under the cuts that are made
  pub carried-under : carried p w B ≡ carried_under p w (cut p w B)
  unfolding carried carried_under
  carried-under =
      ext_get_or 0 (carried p w B) (carried_under p w (cut p w B)) (carried-length (kept p w B) w (length p) ∙ sym (carried-length (λ (c : ℕ → ℕ) (x : ℕ). uncut_under p (cut p w B) x) w (length p)))
      (λ x l. carrying-same s u greedy-carrying (under-carrying s u w (cut p w B)) x (omega (arith, carried-length (kept p w B) w (length p))))

  -- no rank carries more than the limit, if no weight is above it
  pub carried-fits : ((x : ℕ) → x < length p → get_or w x 0 ≤ B) → (x : ℕ) → x < length p → entry (carried p w B) x ≤ B
  unfolding kept
  carried-fits f x l =
      rw (kept_step x l) (trim-fits (entry (carried p w B)) B (get_or w x 0) (length (children p x)) (children-rising p x) (le_refl (length (children p x))) (f x l))

  -- a vertex that carries nothing is never cut
  pub nought-uncut : ((x : ℕ) → x < length p → get_or w x 0 ≤ B) → (x : ℕ) → x < length p → entry (carried p w B) x ≡ 0 → cut p w B x ≡ false
  unfolding cut
  nought-uncut f x l e =
      by_cases (dec_lt q (length p))
      (λ h. rw (lt-ltb q (length p) h, in-member (trim-keeps (entry (carried p w B)) B (get_or w q 0) (length (children p q)) (children-rising p q) (f q h) e (in-children p q l refl))))
      (λ (h : q < length p → ⊥). rw (le-ltb q (length p) (omega arith)))
    where
      q : ℕ
      q = get_or p x absent
