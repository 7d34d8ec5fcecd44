-- Two walks up a forest, of which the lower one goes on: they do not pass what both come to, so they meet at the lowest of it.
-- Assumes nothing.
use mathlib.Core.Path.{◌≡◌, refl, sym, subst, ◌∙◌}
use mathlib.Core.Logic.{◌≢◌, ◌⊎◌, inl, inr, ⊎_elim, by_cases}
use mathlib.Core.List.{List}
use Prim.Native.Nat.{ℕ, ◌+◌, ◌-◌, ◌≤◌, ◌<◌, min, max}
use native.Mathlib.Nat.{le_of_eq, add_comm}
use native.Mathlib.Decide.{ℕ_discrete, dec_lt}
use native.Mathlib.Omega.{arith}
use lib.ListN.{length, get_or}
use Rattle.game.specs.Game.{absent}
use Rattle.game.proofs.Sound.{Sound, sound-true, sound-parent, get_d_default}
use Rattle.game.proofs.Links.{link-of}
use Rattle.game.proofs.Climbs.{Climbs, top, up, climbs-le}
use Rattle.game.proofs.Subtree.{climbs-trans, climbs-rest}
use Rattle.ancestry.specs.Steps.{Walkable, FirstCommon}

-- a sound table, as the laws of forests take it
pub walkable-sound : {p : List ℕ} → Walkable p → Sound p
walkable-sound {p} w = sound-true p w.known

pub walkable-few : {p : List ℕ} → Walkable p → length p ≤ absent
walkable-few w = omega (arith, w.few)

-- where a walk up from v stands: at a vertex, or past its root
pub data Reached (p : List ℕ) (v x : ℕ) : Type 0 where
  at : x < length p → Climbs p x v → Reached p v x
  past : x ≡ absent → Reached p v x

-- two walks so far
pub record Walking (p : List ℕ) (one other a b : ℕ) : Type 0 where
  pub left : Reached p one a
  pub right : Reached p other b
  pub least : (z : ℕ) → Climbs p z one → Climbs p z other → Climbs p z a × Climbs p z b

-- whichever of them is the first
abbrev pub Walks : List ℕ → (one other a b : ℕ) → Type 0
Walks p one other a b = Walking p one other a b ⊎ Walking p other one a b

module _ {p : List ℕ} (w : Walkable p) where
  pub reached-le : {v x : ℕ} → Reached p v x → x ≤ absent
  reached-le (at h k) = omega (arith, w.few)
  reached-le (past e) = le_of_eq e

  pub reached-in : {v x : ℕ} → Reached p v x → x ≢ absent → (x < length p) × Climbs p x v
  reached-in (at h k) d = (h, k)
  reached-in (past e) d = absurd (d e)

  -- the lower of two walks stands at a vertex
  pub reached-low : {v x u y : ℕ} → Reached p v x → Reached p u y → x < y → x < length p
  reached-low {x = x} r s h = (reached-in r (λ (e : x ≡ absent). omega (arith, reached-le s))).0

  -- a walk goes on by the parent
  pub reached-up : {v x : ℕ} → Reached p v x → x ≢ absent → Reached p v (get_or p x absent)
  reached-up {v} {x} r d =
      let i = reached-in r d in
      by_cases (ℕ_discrete (get_or p x absent) absent) past
      (λ (e : get_or p x absent ≢ absent).
      at (sound-parent (walkable-sound w) x i.0 e).1 (climbs-trans i.1 (up (link-of p i.0 refl e) top)))

  -- and it rises
  pub next-higher : {x : ℕ} → x < length p → x < get_or p x absent
  next-higher {x} h =
      by_cases (ℕ_discrete (get_or p x absent) absent)
      (λ (e : get_or p x absent ≡ absent). omega (arith, w.few))
      (λ (e : get_or p x absent ≢ absent). (sound-parent (walkable-sound w) x h e).0)

  pub walk_start : {one other : ℕ} → one < length p → other < length p → Walking p one other one other
  walk_start h k = record { left = at h top; right = at k top; least = λ z i j. (i, j) }

  turned : {one other a b : ℕ} → Walking p one other a b → Walking p other one b a
  turned t = record { left = t.right; right = t.left; least = λ z i j. let k = t.least z j i in (k.1, k.0) }

  -- the lower one goes on
  walk-on : {one other a b : ℕ} → Walking p one other a b → a < b → Walking p one other (get_or p a 0) b
  walk-on {one} {other} {a} {b} t h =
      rw (get_d_default p a 0 absent (reached-low t.left t.right h))
      record {
        left = reached-up t.left (λ (e : a ≡ absent). omega (arith, reached-le t.right));
        right = t.right;
        least = λ z i j.
            let k = t.least z i j in
            (climbs-rest k.0 (λ (e : a ≡ z). omega (arith, climbs-le (walkable-sound w) k.1)), k.1);
      }

  both-walks : {one other a b : ℕ} {A : Type 0} → Walks p one other a b → ((v u : ℕ) → Walking p v u a b → A) → A
  both-walks {one} {other} (inl t) f = f one other t
  both-walks {one} {other} (inr t) f = f other one t

  walks-turned : {one other a b : ℕ} → Walks p one other a b → Walks p one other b a
  walks-turned (inl t) = inr (turned t)
  walks-turned (inr t) = inl (turned t)

  walks-on : {one other a b : ℕ} → Walks p one other a b → a < b → Walks p one other (get_or p a 0) b
  walks-on (inl t) h = inl (walk-on t h)
  walks-on (inr t) h = inr (walk-on t h)

  -- of the lower and the higher of two that differ
  module _ {one other a b low high : ℕ} (t : Walks p one other a b) (d : a ≢ b) (l : low ≡ min a b) (h : high ≡ max a b) where
    sides : ((low ≡ a) × (high ≡ b)) ⊎ ((low ≡ b) × (high ≡ a))
    sides = by_cases (dec_lt a b) (λ (k : a < b). inl (omega arith, omega arith)) (λ (k : ¬ (a < b)). inr (omega arith, omega arith))

    ordered : Walks p one other low high
    ordered = ⊎_elim (λ e. rw (e.0, e.1) t) (λ e. rw (e.0, e.1) (walks-turned t)) sides

    lower : low < high
    lower = omega arith

    pub walks-low : low < length p
    walks-low = both-walks ordered (λ v u s. reached-low s.left s.right lower)

    pub walks-step : Walks p one other (get_or p low 0) high
    walks-step = walks-on ordered lower

    -- each step brings the two walks nearer to absent
    pub walks_less : (absent - get_or p low 0) + (absent - high) < (absent - a) + (absent - b)
    walks_less = less (absent - high) nearer same
      where
        nearer : absent - get_or p low 0 < absent - low
        nearer = omega (arith, get_d_default p low 0 absent walks-low, next-higher walks-low, walks-low, w.few)

        same : (absent - low) + (absent - high) ≡ (absent - a) + (absent - b)
        same = ⊎_elim (λ e. rw (e.0, e.1)) (λ e. rw (e.0, e.1) (add_comm (absent - b) (absent - a))) sides

        less : (z : ℕ) {x y s : ℕ} → x < y → y + z ≡ s → x + z < s
        less z h e = omega arith

  walk_end : {one other a b : ℕ} → Walking p one other a b → a ≡ b → FirstCommon p one other a
  walk_end {one} {other} {a} {b} t e =
      record {
        inside = λ d. (reached-in t.left d).0;
        both = λ d. ((reached-in t.left d).1, subst (λ (x : ℕ). Climbs p x other) (sym e) (reached-in t.right (λ q. d (e ∙ q))).1);
        least = λ z i j. (t.least z i j).0;
      }

  pub walks-end : {one other a b : ℕ} → Walks p one other a b → a ≡ b → FirstCommon p one other a
  walks-end (inl t) e = walk_end t e
  walks-end (inr t) e =
      let m = walk_end t e in
      record { inside = m.inside; both = λ d. ((m.both d).1, (m.both d).0); least = λ z i j. m.least z j i }
