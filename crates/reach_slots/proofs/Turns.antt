-- Going over the slots one by one: which lower end a slot is for, and which edge stands in it.
-- Assumes nothing.
use mathlib.Core.Path.{◌≡◌, sym, ap, ◌∙◌}
use mathlib.Core.Logic.{◌≢◌, by_cases}
use mathlib.Core.List.{List}
use Prim.Native.Nat.{ℕ, ◌+◌, ◌≤◌, ◌<◌}
use native.Mathlib.Decide.{ℕ_discrete}
use native.Mathlib.Omega.{arith}
use lib.ListN.{length, get_or}
use Rattle.reach_slots.specs.Layout.{Own, Layout}
use Rattle.reach_slots.specs.InSlots.{Marked}
use Rattle.reach_slots.proofs.Slots.{own-unique}

-- the slots of u stop at `stop`; slot k is one of them and not the first, or the first of another lower end
pub record Turn (w stops : List ℕ) (k u stop : ℕ) : Type 0 where
  pub upto : k ≤ stop
  pub within : k < stop → Own w stops u k × (get_or stops u 0 ≢ k + get_or w u 0) × (stop ≡ get_or stops u 0)
  pub first : k ≡ stop → (x : ℕ) → Own w stops x k → get_or stops x 0 ≡ k + get_or w x 0

-- slot k holds an edge from u up to y, and the slots of u stop at `stop`
pub record Slot (w stops filed : List ℕ) (k u y stop : ℕ) : Type 0 where
  pub own : Own w stops u k
  pub upper : y ≡ get_or filed k 0
  pub last : stop ≡ get_or stops u 0

module _ {p w stops ends : List ℕ} {m : ℕ} (l : Layout p w stops ends m) where
  -- slot 0 is the first of its lower end
  pub turn-start : {u : ℕ} → Turn w stops 0 u 0
  turn-start =
      record {
        upto = omega arith;
        within = λ h. absurd (omega arith);
        first = λ e x o. omega (arith, o.from, l.room x (rw l.entries at o.inside));
      }

  -- the next slot
  pub turn-next : {filed : List ℕ} {k u y stop : ℕ} → Slot w stops filed k u y stop → Turn w stops (k + 1) u stop
  turn-next {k = k} {u = u} {stop = stop} s =
      let from = s.own.from in
      let to = s.own.to in
      let e = s.last in
      record {
        upto = omega arith;
        within = λ h. (record { inside = s.own.inside; from = omega arith; to = omega arith }, λ q. omega arith, e);
        first = λ q x o.
            let a = o.from in
            let b = o.to in
            by_cases (ℕ_discrete (get_or stops x 0) (k + 1 + get_or w x 0)) (λ f. f)
            (λ (d : get_or stops x 0 ≢ k + 1 + get_or w x 0).
            let same : x ≡ u = own-unique l (record { inside = o.inside; from = omega arith; to = omega arith }) s.own in
            absurd (omega (arith, ap (λ z. get_or stops z 0) same)));
      }

  module _ {filed first slots : List ℕ} {k u stop : ℕ} (h : k < m) (marked : Marked w stops filed first slots) (t : Turn w stops k u stop) where
    -- the first slot of a lower end: the mark names it
    mark : k ≡ stop → (x : ℕ) × Own w stops x k × (get_or slots k 0 ≡ x) × (get_or first x 0 ≡ get_or filed k 0) × (get_or stops x 0 ≡ k + get_or w x 0)
    mark e =
        let (x, o) = l.owner k h in
        let begin = t.first e x o in
        let (a, b) = marked.mark x k o begin in
        (x, o, a, b, begin)

    -- so a lower end is read there, and its slots are among the m
    pub slot-mark : {v : ℕ} → k ≡ stop → v ≡ get_or slots k 0 → (v < length stops) × (k + get_or w v 0 ≤ m)
    slot-mark e rv =
        let (x, o, a, b, begin) = mark e in
        rw (rv, a) (o.inside, rw (← begin) (l.room x (rw l.entries at o.inside)).1)

    -- and the edge is read by way of the mark
    pub slot-first : {v v' w' y y' f : ℕ} → k ≡ stop → v' ≡ get_or slots k 0 → w' ≡ get_or w v' 0 → y' ≡ get_or first v' 0
        → v ≡ v' → f ≡ k + w' → y ≡ y' → Slot w stops filed k v y f
    slot-first e rv rw' ry ev ef ey =
        let (x, o, a, b, begin) = mark e in
        let same = rv ∙ a in
        record {
          own = rw (ev ∙ same) o;
          upper = ey ∙ ry ∙ ap (λ z. get_or first z 0) same ∙ b;
          last = ef ∙ ap (λ z. k + z) (rw' ∙ ap (λ z. get_or w z 0) same) ∙ sym begin ∙ ap (λ z. get_or stops z 0) (sym (ev ∙ same));
        }

    -- another slot
    pub slot-other : {v y y' f : ℕ} → k ≢ stop → y' ≡ get_or slots k 0 → v ≡ u → f ≡ stop → y ≡ y' → Slot w stops filed k v y f
    slot-other d ry ev ef ey =
        let b : k ≤ stop = t.upto in
        let (o, n, e) = t.within (omega arith) in
        record { own = rw ev o; upper = ey ∙ ry ∙ marked.rest u k o n; last = ef ∙ e ∙ ap (λ z. get_or stops z 0) (sym ev) }
