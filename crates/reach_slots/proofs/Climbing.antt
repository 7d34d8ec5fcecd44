-- The climb from v to the lowest vertex at or above it whose subtree is not over, along compressed pointers.
-- Assumes nothing.
use mathlib.Core.Path.{◌≡◌, refl, ap}
use mathlib.Core.Logic.{◌≢◌, by_cases}
use mathlib.Core.List.{List}
use Prim.Native.Nat.{ℕ, ◌≤◌, ◌<◌}
use native.Mathlib.Nat.{lt_trans}
use native.Mathlib.Decide.{ℕ_discrete}
use native.Mathlib.Omega.{arith}
use lib.ListN.{length, get_or, set, length-set}
use lib.Seq.{get_or-set_same, get_or-set_other}
use Rattle.game.specs.Game.{absent}
use Rattle.game.proofs.Sound.{Sound}
use Rattle.game.proofs.Climbs.{Climbs, top, climbs-le}
use Rattle.reach_slots.specs.Jumps.{Jump, Jumps, Under, Found}
use Rattle.game.proofs.Subtree.{climbs-trans, climbs-parent, climbs-inside}

module _ {p : List ℕ} (s : Sound p) (ends : List ℕ) {k : ℕ} where
  -- a climb from a vertex that is over to one that is not goes up
  over_below : {x z : ℕ} → Climbs p z x → get_or ends x 0 ≤ k → k < get_or ends z 0 → x < z
  over_below {x} {z} c h l =
      let le : x ≤ z = climbs-le s c in
      let d : x ≢ z = λ e. let same : get_or ends x 0 ≡ get_or ends z 0 = ap (λ i. get_or ends i 0) e in omega arith in
      omega arith

  -- a jump to a vertex that is over, and one more, are a jump
  jump-trans : {x q z : ℕ} → Jump p ends k x q → get_or ends q 0 ≤ k → Jump p ends k q z → Jump p ends k x z
  jump-trans i h j =
      record {
        higher = lt_trans i.higher j.higher;
        climb = climbs-trans i.climb j.climb;
        passed = λ w l c o. let b = i.passed w l c o in j.passed w (over_below b h o) b o;
      }

-- a store of a jump leaves jumps
jumps-set : {p ends ancestor : List ℕ} {k : ℕ} → Jumps p ends ancestor k → (x q : ℕ) → Jump p ends k x q
    → Jumps p ends (set ancestor x q) k
jumps-set {ancestor = ancestor} js x q j =
    record {
      sound = js.sound;
      entries = simp length-set js.entries;
      each = λ z h d. by_cases (ℕ_discrete z x)
          (λ (e : z ≡ x). rw (e, get_or-set_same ancestor x q 0 (rw (← e, js.entries) h)) j)
          (λ (e : z ≢ x). rw (get_or-set_other ancestor x z q 0 e) (js.each z h d));
    }

-- where v is absent, it is y
pub stays : {p ends : List ℕ} {k v y : ℕ} → Under p ends k v y → v ≡ absent → Found p ends k v y y
stays u e = record { inside = u.inside; none = λ a. refl; lowest = λ d. absurd (d e) }

-- the climb stands at r: r is at or above v, and so near that every vertex at or above v that is not over, as y, is at or above r
pub record Stands (p ends ancestor : List ℕ) (k v y r : ℕ) : Type 0 where
  pub jumps : Jumps p ends ancestor k
  pub below : Under p ends k v y
  pub climb : Climbs p r v
  pub rest : (z : ℕ) → Climbs p z v → k < get_or ends z 0 → Climbs p z r
  pub inside : r < length p
  pub some : v ≢ absent

module _ {p ends ancestor : List ℕ} {k v y : ℕ} where
  -- it begins at v
  pub stands-first : Jumps p ends ancestor k → Under p ends k v y → v ≢ absent → Stands p ends ancestor k v y v
  stands-first j u d =
      let h : v ≤ y = climbs-le j.sound (u.lower d) in
      let l : y < length p = u.inside in
      record { jumps = j; below = u; climb = top; rest = λ z c i. c; inside = omega arith; some = d }

  module _ {r : ℕ} (st : Stands p ends ancestor k v y r) where
    -- a vertex that is over has a pointer to go by
    stands-jump : get_or ends r 0 ≤ k → Jump p ends k r (get_or ancestor r 0)
    stands-jump h =
        let c : Climbs p y r = st.rest y (st.below.lower st.some) st.below.unfinished in
        let l : r < y = over_below st.jumps.sound ends c h st.below.unfinished in
        st.jumps.each r st.inside (climbs-parent c (λ e. omega arith)).1

    -- one pointer on
    stands_on : get_or ends r 0 ≤ k → Stands p ends ancestor k v y (get_or ancestor r 0)
    stands_on h =
        let j = stands-jump h in
        record {
          jumps = st.jumps;
          below = st.below;
          climb = climbs-trans st.climb j.climb;
          rest = λ z c l. let b = st.rest z c l in j.passed z (over_below st.jumps.sound ends b h l) b l;
          inside = climbs-inside st.jumps.sound j.climb st.inside;
          some = st.some;
        }

    -- it has come to a vertex that is not over
    pub stands-end : {e : ℕ} → e ≡ get_or ends r 0 → k < e → Found p ends k v y r
    stands-end e h =
        record {
          inside = st.inside;
          none = λ e. absurd (st.some e);
          lowest = λ d. record { climb = st.climb; unfinished = rw e at h; least = st.rest };
        }

    module _ {e q : ℕ} (re : e ≡ get_or ends r 0) (over : e ≤ k) (rq : q ≡ get_or ancestor r 0) where
      -- it goes on to q
      pub stands-next : Stands p ends ancestor k v y q
      stands-next = rw rq (stands_on (rw re at over))

      -- which is a jump
      next-jump : Jump p ends k r q
      next-jump = rw rq (stands-jump (rw re at over))

-- two pointers on, with the first made to point there too
pub stands-halve : {p ends ancestor : List ℕ} {k v y r e q f z : ℕ} (st : Stands p ends ancestor k v y r)
    → e ≡ get_or ends r 0 → e ≤ k → q ≡ get_or ancestor r 0 → f ≡ get_or ends q 0 → f ≤ k → z ≡ get_or ancestor q 0
    → Stands p ends (set ancestor r z) k v y z × (r < z)
stands-halve {ends = ends} {r = r} {z = z} st re h rq rf g rz =
    let one = stands-next st re h rq in
    let two = stands-next one rf g rz in
    let j = jump-trans st.jumps.sound ends (next-jump st re h rq) (rw rf at g) (next-jump one rf g rz) in (
      record {
        jumps = jumps-set st.jumps r z j;
        below = st.below;
        climb = two.climb;
        rest = two.rest;
        inside = two.inside;
        some = st.some;
      },
      j.higher,
    )
