-- Stretches of slots along a forest: by falling rank each vertex takes a stretch, as long as its subtree's count, from the back
-- of what its parent has left of its own; the roots take theirs from all the slots, as if `absent` were their parent. In the end
-- a slot lies in the stretch of z exactly if the vertex that has it left is under z.
-- Assumes nothing.
use mathlib.Core.Path.{◌≡◌, refl, sym, ◌∙◌}
use mathlib.Core.Logic.{◌≢◌, ◌⊎◌, inl, inr, ⊎_elim, by_cases}
use mathlib.Core.List.{List}
use Prim.Native.Nat.{ℕ, ◌+◌, ◌≤◌, ◌<◌}
use native.Mathlib.Nat.{le_refl}
use native.Mathlib.Decide.{ℕ_discrete, dec_lt}
use native.Mathlib.Omega.{arith}
use lib.ListN.{length, get_or, get_or-eq_default}
use Rattle.game.specs.Game.{absent}
use Rattle.game.proofs.Links.{link-of}
use Rattle.game.proofs.Climbs.{Climbs, top, up, climbs-le}
use Rattle.reach_slots.specs.Balance.{child_sum, Subtrees}
use Rattle.game.proofs.Subtree.{climbs-antisym, climbs-root, climbs-rest}
use Rattle.reach_slots.proofs.Children.{child_sum-here, child_sum-other}

-- x is a vertex of the forest, or stands for the parent of the roots
abbrev pub Place : List ℕ → ℕ → Type 0
Place p x = (x ≡ absent) ⊎ (x < length p)

-- slot k lies in what x, of the vertices from i on, has left: from `start x` to `free x`
pub record Host (p : List ℕ) (i : ℕ) (start free : ℕ → ℕ) (x k : ℕ) : Type 0 where
  pub place : Place p x
  pub placed : i ≤ x
  pub lower : start x ≤ k
  pub upper : k < free x

-- slot k lies in the stretch of z
pub record Inside (start end : ℕ → ℕ) (z k : ℕ) : Type 0 where
  pub lower : start z ≤ k
  pub upper : k < end z

-- the vertices from i on have their stretches
pub record Placed (p w : List ℕ) (size : ℕ → ℕ) (m i : ℕ) (start free end : ℕ → ℕ) : Type 0 where
  pub room : (x : ℕ) → Place p x → i ≤ x → start x + get_or w x 0 + child_sum p size i x ≡ free x
  pub bound : (x : ℕ) → Place p x → i ≤ x → free x ≤ m
  pub owner : (k : ℕ) → k < m → (x : ℕ) × Host p i start free x k
  pub inner : (x k z : ℕ) → Host p i start free x k → i ≤ z → z < length p → Climbs p z x → Inside start end z k
  pub outer : (x k z : ℕ) → Host p i start free x k → i ≤ z → z < length p → Inside start end z k → Climbs p z x

module _ {p w : List ℕ} {size : ℕ → ℕ} {m : ℕ} (st : Subtrees p w size m) where
  -- nothing of the forest is above `absent`
  above-absent : {z : ℕ} → z < length p → Climbs p z absent → ⊥
  above-absent {z} h k =
      let n : length p ≤ absent = st.short in
      let e : absent ≡ z = climbs-root (get_or-eq_default p absent n) k in
      omega arith

  -- a climb from the parent is one from the vertex
  climbs-more : {x z : ℕ} → x < length p → z < length p → Climbs p z (get_or p x absent) → Climbs p z x
  climbs-more {x} {z} h l k =
      by_cases (ℕ_discrete (get_or p x absent) absent)
      (λ (e : get_or p x absent ≡ absent). absurd (above-absent l (rw e at k)))
      (λ (d : get_or p x absent ≢ absent). up (link-of p h refl d) k)

  -- the parent of a vertex is a place above it
  parent_place : {x : ℕ} → x < length p → Place p (get_or p x absent) × (x < get_or p x absent)
  parent_place {x} h =
      let n : length p ≤ absent = st.short in
      ⊎_elim (λ e. (inl e, rw e (omega arith))) (λ b. (inr b.1, b.0)) (st.sound.each x h)

  module _ {i : ℕ} {start free end : ℕ → ℕ} (d : Placed p w size m i start free end) where
    -- a slot lies in what one vertex has left, and in that of no other
    host-unique : {x y k : ℕ} → Host p i start free x k → Host p i start free y k → x ≡ y
    host-unique {x} {y} {k} hx hy = go hx.place hy.place
      where
        meets : {a b : ℕ} → Host p i start free a k → Host p i start free b k → b < length p → Climbs p b a
        meets {a} {b} ha hb l = d.outer a k b ha hb.placed l (d.inner b k b hb hb.placed l top)

        go : Place p x → Place p y → x ≡ y
        go (inl e) (inl f) = e ∙ sym f
        go (inl e) (inr g) = absurd (above-absent g (rw e at (meets hx hy g)))
        go (inr h) (inl f) = absurd (above-absent h (rw f at (meets hy hx h)))
        go (inr h) (inr g) = climbs-antisym st.sound st.short (meets hx hy g) (meets hy hx h)

-- the vertex i takes its stretch from the back of what its parent has left
pub record Taken (p : List ℕ) (size : ℕ → ℕ) (i : ℕ) (start free end start' free' end' : ℕ → ℕ) : Type 0 where
  pub begin : start' i + size i ≡ free (get_or p i absent)
  pub own : free' i ≡ free (get_or p i absent)
  pub last : end' i ≡ free (get_or p i absent)
  pub parent : free' (get_or p i absent) + size i ≡ free (get_or p i absent)
  pub frees : (x : ℕ) → Place p x → x ≢ i → x ≢ get_or p i absent → free' x ≡ free x
  pub starts : (x : ℕ) → x ≢ i → start' x ≡ start x
  pub ends : (x : ℕ) → x ≢ i → end' x ≡ end x

module _ {p w : List ℕ} {size : ℕ → ℕ} {m i : ℕ} {start free end : ℕ → ℕ} (st : Subtrees p w size m) (h : i < length p)
    (d : Placed p w size m (i + 1) start free end) where
  -- what the parent has left is enough
  parent-room : start (get_or p i absent) + get_or w (get_or p i absent) 0 + child_sum p size i (get_or p i absent) + size i ≡ free (get_or p i absent)
  parent-room =
      let (pl, l) = parent_place st h in
      omega (arith, d.room (get_or p i absent) pl (omega arith), child_sum-here p size i (get_or p i absent) refl)

  -- the stretch of i fits
  pub placed-fits : size i ≤ free (get_or p i absent)
  placed-fits = omega (arith, parent-room)

  parent-bound : free (get_or p i absent) ≤ m
  parent-bound = let (pl, l) = parent_place st h in d.bound (get_or p i absent) pl (omega arith)

module _ {p w : List ℕ} {size : ℕ → ℕ} {m i : ℕ} {start free end start' free' end' : ℕ → ℕ} (st : Subtrees p w size m) (h : i < length p)
    (d : Placed p w size m (i + 1) start free end) (t : Taken p size i start free end start' free' end') where
  q : ℕ
  q = get_or p i absent

  -- what x had left, where x is not i
  before : {x k : ℕ} → Host p i start' free' x k → x ≢ i → Host p (i + 1) start free x k
  unfolding q
  before {x} {k} g n =
      let a : i ≤ x = g.placed in
      let upper : k < free' x = g.upper in
      let le : free' x ≤ free x = by_cases (ℕ_discrete x q) (λ (e : x ≡ q). rw e (omega (arith, t.parent))) (λ f. omega (arith, t.frees x g.place n f)) in
      record { place = g.place; placed = omega arith; lower = rw (← (t.starts x n)) g.lower; upper = omega arith }

  -- what i has was the parent's
  taken : {k : ℕ} → Host p i start' free' i k → Host p (i + 1) start free q k
  unfolding q
  taken {k} g =
      let (pl, l) = parent_place st h in
      let lower : start' i ≤ k = g.lower in
      let upper : k < free q = rw t.own at g.upper in
      record { place = pl; placed = omega arith; lower = omega (arith, parent-room st h d, t.begin); upper = upper }

  -- a slot that the parent had left is i's now, or still the parent's
  owner' : (k : ℕ) → k < m → (x : ℕ) × Host p i start' free' x k
  unfolding q
  owner' k l = go (d.owner k l)
    where
      go : (x : ℕ) × Host p (i + 1) start free x k → (x : ℕ) × Host p i start' free' x k
      go (x, g) =
          let a : i + 1 ≤ x = g.placed in
          let n : x ≢ i = λ e. omega arith in
          let lower : start' x ≤ k = rw (t.starts x n) g.lower in
          let upper : k < free x = g.upper in
          by_cases (ℕ_discrete x q)
          (λ (e : x ≡ q). by_cases (dec_lt k (start' i))
          (λ (b : k < start' i). (x, record { place = g.place; placed = omega arith; lower = lower; upper = rw e (omega (arith, t.begin, t.parent)) }))
          (λ (b : ¬ (k < start' i)). (i, record { place = inr h; placed = le_refl i; lower = omega arith; upper = rw (t.own, ← e) upper })))
          (λ (f : x ≢ q). (x, record { place = g.place; placed = omega arith; lower = lower; upper = rw (t.frees x g.place n f) upper }))

  inner' : (x k z : ℕ) → Host p i start' free' x k → i ≤ z → z < length p → Climbs p z x → Inside start' end' z k
  unfolding q
  inner' x k z g a l c = by_cases (ℕ_discrete x i) here elsewhere
    where
      old : z ≢ i → Inside start end z k → Inside start' end' z k
      old n s = record { lower = rw (t.starts z n) s.lower; upper = rw (t.ends z n) s.upper }

      here : x ≡ i → Inside start' end' z k
      here e =
          let g' : Host p i start' free' i k = rw e at g in
          by_cases (ℕ_discrete z i)
          (λ (f : z ≡ i). rw f (record { lower = g'.lower; upper = rw (t.last, ← t.own) g'.upper }))
          (λ (n : z ≢ i). old n (d.inner q k z (taken g') (omega arith) l (climbs-rest (rw e at c) (λ f. n (sym f)))))

      elsewhere : x ≢ i → Inside start' end' z k
      elsewhere n =
          let le : x ≤ z = climbs-le st.sound c in
          let b : i ≤ x = g.placed in
          old (λ f. omega arith) (d.inner x k z (before g n) (omega arith) l c)

  outer' : (x k z : ℕ) → Host p i start' free' x k → i ≤ z → z < length p → Inside start' end' z k → Climbs p z x
  unfolding q
  outer' x k z g a l s = by_cases (ℕ_discrete z i) here elsewhere
    where
      here : z ≡ i → Climbs p z x
      here e = by_cases (ℕ_discrete x i) (λ (f : x ≡ i). rw (e, f) top) (λ (n : x ≢ i). absurd (twice n))
        where
          s' : Inside start' end' i k
          s' = rw e at s

          own : Host p (i + 1) start free q k
          own = taken (record { place = inr h; placed = le_refl i; lower = s'.lower; upper = rw (t.own, ← t.last) s'.upper })

          twice : x ≢ i → ⊥
          twice n =
              let f : x ≡ q = host-unique st d (before g n) own in
              let b : k < free' q = rw f at g.upper in
              omega (arith, s'.lower, t.begin, t.parent)

      elsewhere : z ≢ i → Climbs p z x
      elsewhere n =
          let s' : Inside start end z k = record { lower = rw (← (t.starts z n)) s.lower; upper = rw (← (t.ends z n)) s.upper } in
          by_cases (ℕ_discrete x i)
          (λ (e : x ≡ i). rw e (climbs-more st h l (d.outer q k z (taken (rw e at g)) (omega arith) l s')))
          (λ (e : x ≢ i). d.outer x k z (before g e) (omega arith) l s')

  room' : (x : ℕ) → Place p x → i ≤ x → start' x + get_or w x 0 + child_sum p size i x ≡ free' x
  unfolding q
  room' x pl a =
      by_cases (ℕ_discrete x i)
      (λ (e : x ≡ i). rw e (omega (arith, t.begin, t.own, st.balance.each i h)))
      (λ (n : x ≢ i).
      let old : start x + get_or w x 0 + child_sum p size (i + 1) x ≡ free x = d.room x pl (omega arith) in
      by_cases (ℕ_discrete x q)
      (λ (e : x ≡ q). rw (t.starts x n, e) (omega (arith, t.parent, parent-room st h d)))
      (λ (f : x ≢ q). rw (t.starts x n, t.frees x pl n f) (omega (arith, child_sum-other p size i x (λ e. f (sym e))))))

  bound' : (x : ℕ) → Place p x → i ≤ x → free' x ≤ m
  unfolding q
  bound' x pl a =
      by_cases (ℕ_discrete x i)
      (λ (e : x ≡ i). rw e (omega (arith, t.own, parent-bound st h d)))
      (λ (n : x ≢ i).
      let old : free x ≤ m = d.bound x pl (omega arith) in
      by_cases (ℕ_discrete x q) (λ (e : x ≡ q). rw e (omega (arith, t.parent, parent-bound st h d))) (λ (f : x ≢ q). rw (t.frees x pl n f) old))

  -- one vertex more has its stretch
  pub placed-step : Placed p w size m i start' free' end'
  placed-step = record { room = room'; bound = bound'; owner = owner'; inner = inner'; outer = outer' }

module _ {p w : List ℕ} {size : ℕ → ℕ} {m : ℕ} (st : Subtrees p w size m) {start free end : ℕ → ℕ} where
  -- at first all slots are left to the roots
  pub placed_first : start absent ≡ 0 → free absent ≡ m → Placed p w size m (length p) start free end
  placed_first es ef =
      record {
        room = λ x pl a. ⊎_elim (λ (e : x ≡ absent). rw e (omega (arith, none, st.roots))) (λ b. absurd (omega arith)) pl;
        bound = λ x pl a. ⊎_elim (λ (e : x ≡ absent). rw (e, ef) (le_refl m)) (λ b. absurd (omega arith)) pl;
        owner = λ k l. (absent, record { place = inl refl; placed = st.short; lower = rw es (omega arith); upper = rw ef l });
        inner = λ x k z g a l. absurd (omega arith);
        outer = λ x k z g a l. absurd (omega arith);
      }
    where
      none : get_or w absent 0 ≡ 0
      none = get_or-eq_default w 0 (rw st.counts st.short)
