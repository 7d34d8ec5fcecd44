-- The tournament of the blocks: how it is played, and that its winner is the lightest block, of equals the lowest.
-- Assumes nothing.
use mathlib.Core.Path.{◌≡◌, sym, ap, subst, ◌∙◌}
use mathlib.Core.Logic.{◌≢◌, inl, inr, ⊎_elim, by_cases}
use mathlib.Core.List.{List}
use Prim.Native.Nat.{ℕ, zero, suc, min, ◌+◌, ◌*◌, ◌-◌, ◌/◌, ◌%◌, ◌≤◌, ◌<◌}
use native.Mathlib.Nat.{le_refl}
use native.Mathlib.Decide.{ℕ_discrete, dec_lt}
use native.Mathlib.Omega.{arith}
use lib.ListN.{length, get_or, set, replicate, length-set, length-replicate, get_or-replicate}
use lib.Seq.{get_or-set_same, get_or-set_other}
use Rattle.refusal.specs.DivisionLimits.{max_blocks}
use Rattle.pack.specs.Lightest.{lightest}
use Rattle.pack.specs.TournamentSteps.{key, Lower, Tournament, Outdated}
use Rattle.pack.proofs.Lightest.{lightest-found}

-- the smaller of two numbers is the lower
pub lower-min : {a b r : ℕ} → r ≡ min a b → Lower a b r
lower-min {a} {b} {r} e =
    record {
      left = omega (arith, e);
      right = omega (arith, e);
      one = by_cases (dec_lt b a) (λ (l : b < a). inr (omega (arith, e))) (λ (l : b < a → ⊥). inl (omega (arith, e)));
    }

lower-swap : {a b r : ℕ} → Lower a b r → Lower b a r
lower-swap l = record { left = l.right; right = l.left; one = ⊎_elim (λ e. inr e) (λ e. inl e) l.one }

-- Where the playing stands: the nodes from `from` on have what they have to, but for the parent of the node `at`, which has changed.
pub record Playing (loads nodes : List ℕ) (from at : ℕ) : Type 0 where
  pub size : length nodes ≡ 2 * max_blocks
  pub low : 1 ≤ at
  pub high : at ≤ 2 * length loads
  pub leaves : (j : ℕ) → j < length loads → from ≤ length loads + j → get_or nodes (length loads + j) 0 ≡ key (get_or loads j 0) j
  pub inner : (i : ℕ) → 1 ≤ i → from ≤ i → i < length loads → i ≢ at / 2 → Lower (get_or nodes (2 * i) 0) (get_or nodes (2 * i + 1) 0) (get_or nodes i 0)

-- node p is played: it is right, where the others are, but for its parent
module _ (loads nodes : List ℕ) (from p v : ℕ) (size : length nodes ≡ 2 * max_blocks) (low : 1 ≤ p) (high : p ≤ 2 * length loads) (room : p < length nodes)
    (leaves : (j : ℕ) → j < length loads → from ≤ length loads + j → length loads + j ≢ p → get_or nodes (length loads + j) 0 ≡ key (get_or loads j 0) j)
    (inner : (i : ℕ) → 1 ≤ i → from ≤ i → i < length loads → i ≢ p → i ≢ p / 2 → Lower (get_or nodes (2 * i) 0) (get_or nodes (2 * i + 1) 0) (get_or nodes i 0))
    (leaf : (j : ℕ) → length loads + j ≡ p → v ≡ key (get_or loads j 0) j)
    (node : p < length loads → Lower (get_or nodes (2 * p) 0) (get_or nodes (2 * p + 1) 0) v) where
  other : (i : ℕ) → i ≢ p → get_or (set nodes p v) i 0 ≡ get_or nodes i 0
  other i d = get_or-set_other nodes p i v 0 d

  played : Playing loads (set nodes p v) from p
  played =
      record {
        size = length-set nodes p v ∙ size;
        low = low;
        high = high;
        leaves =
            λ j l f.
            by_cases (ℕ_discrete (length loads + j) p)
            (λ e. ap (λ (i : ℕ). get_or (set nodes p v) i 0) e ∙ get_or-set_same nodes p v 0 room ∙ leaf j e)
            (λ d. other (length loads + j) d ∙ leaves j l f d);
        inner =
            λ i h f l d.
            by_cases (ℕ_discrete i p)
            (λ (e : i ≡ p).
            rw (e, other (2 * p) (λ (q : 2 * p ≡ p). omega arith), other (2 * p + 1) (λ (q : 2 * p + 1 ≡ p). omega arith), get_or-set_same nodes p v 0 room)
            (node (omega arith)))
            (λ (e : i ≢ p).
            rw (other (2 * i) (λ (q : 2 * i ≡ p). d (omega arith)), other (2 * i + 1) (λ (q : 2 * i + 1 ≡ p). d (omega arith)), other i e)
            (inner i h f l e d));
      }

module _ {loads nodes : List ℕ} where
  -- all are played
  pub play-done : {from at : ℕ} → Playing loads nodes from at → at ≤ 1 → from ≤ 1 → Tournament loads nodes
  play-done {from} {at} k h f =
      record {
        size = k.size;
        leaves = λ j l. k.leaves j l (omega arith);
        inner = λ i l g. k.inner i l (omega arith) g (λ (e : i ≡ at / 2). omega arith);
      }

zeros : (k : ℕ) → length {A = ℕ} (replicate k 0) ≡ k
zeros k = length-replicate k 0

-- of blocks with no load the first is the lightest
pub lightest-zeros : {loads : List ℕ} {k : ℕ} → loads ≡ replicate k 0 → 0 < k → 0 ≡ lightest loads
lightest-zeros {loads} {k} e h =
    lightest-found
    (record {
      inside = omega (arith, size);
      least = λ i l. omega (arith, none 0 h, none i (omega (arith, size)));
      first = λ i l. inr (omega arith);
    })
  where
    size : length loads ≡ k
    size = ap length e ∙ zeros k

    none : (i : ℕ) → i < k → get_or loads i 0 ≡ 0
    none i l = ap (λ (t : List ℕ). get_or t i 0) e ∙ get_or-replicate {A = ℕ} k i 0 0 l

pub tournament-same : {loads loads' nodes nodes' : List ℕ} → loads' ≡ loads → nodes' ≡ nodes → Tournament loads nodes → Tournament loads' nodes'
tournament-same e f t = rw (e, f) t

-- where one block has a new load, it has to play again
pub outdated : {loads nodes : List ℕ} → Tournament loads nodes → length loads ≤ max_blocks → {b : ℕ} (v : ℕ) → b < length loads → Outdated b (set loads b v) nodes
outdated {loads} t few {b} v l =
    record {
      inside = rw (length-set loads b v) l;
      few = rw (length-set loads b v) few;
      was = loads;
      size = length-set loads b v;
      others = λ j d. get_or-set_other loads b j v 0 d;
      played = t;
    }

-- Where the replaying stands: at the node `at`, which has the key `least`.
pub record Replaying (loads nodes : List ℕ) (at least : ℕ) : Type 0 where
  pub playing : Playing loads nodes 1 at
  pub few : length loads ≤ max_blocks
  pub inside : at < 2 * length loads
  pub held : get_or nodes at 0 ≡ least

-- the node above plays again: s is the other node with the same parent
pub replay-more : {loads nodes : List ℕ} {at least : ℕ} → Replaying loads nodes at least → 1 < at → (s : ℕ) {v : ℕ} → s + at ≡ 4 * (at / 2) + 1
    → Lower least (get_or nodes s 0) v → Replaying loads (set nodes (at / 2) v) (at / 2) v
replay-more {loads} {nodes} {at} {least} k h s {v} e n =
    record {
      playing =
          played loads nodes 1 (at / 2) v k.playing.size (omega arith) (omega (arith, k.inside)) room
          (λ j g f d. k.playing.leaves j g f)
          (λ i g f m d q. k.playing.inner i g f m d)
          (λ j q. absurd (omega (arith, k.inside)))
          (λ q.
          by_cases (ℕ_discrete at (2 * (at / 2)))
          (λ (r : at ≡ 2 * (at / 2)). both at s r (omega arith) (rw k.held n))
          (λ (r : at ≢ 2 * (at / 2)). both s at (omega arith) (omega arith) (rw k.held (lower-swap n))));
      few = k.few;
      inside = omega (arith, k.inside);
      held = get_or-set_same nodes (at / 2) v 0 room;
    }
  where
    room : at / 2 < length nodes
    room = omega (arith, k.inside, k.few, k.playing.size)

    both : (x y : ℕ) → x ≡ 2 * (at / 2) → y ≡ 2 * (at / 2) + 1 → Lower (get_or nodes x 0) (get_or nodes y 0) v
        → Lower (get_or nodes (2 * (at / 2)) 0) (get_or nodes (2 * (at / 2) + 1) 0) v
    both x y p q m = rw (← q, ← p) m

-- the winner
module _ {loads nodes : List ℕ} (t : Tournament loads nodes) where
  -- a number that is the key of a block
  record Keyed (v : ℕ) : Type 0 where
    block : ℕ
    inside : block < length loads
    keys : v ≡ key (get_or loads block 0) block

  -- as each node's is
  keyed : (f i : ℕ) → 1 ≤ i → i < 2 * length loads → 2 * length loads ≤ i + f → Keyed (get_or nodes i 0)
  keyed zero i h l g = absurd (omega arith)
  keyed (suc f) i h l g =
      by_cases (dec_lt i (length loads))
      (λ m.
      ⊎_elim
      (λ e. subst Keyed (sym e) (keyed f (2 * i) (omega arith) (omega arith) (omega arith)))
      (λ e. subst Keyed (sym e) (keyed f (2 * i + 1) (omega arith) (omega arith) (omega arith)))
      (t.inner i h m).one)
      (λ (m : i < length loads → ⊥).
      let e : length loads + (i - length loads) ≡ i = omega arith in
      record {
        block = i - length loads;
        inside = omega arith;
        keys = sym (ap (λ (i : ℕ). get_or nodes i 0) e) ∙ t.leaves (i - length loads) (omega arith);
      })

  -- node 1 has the lowest
  lowest : (f i : ℕ) → i ≤ f → 1 ≤ i → i < 2 * length loads → get_or nodes 1 0 ≤ get_or nodes i 0
  lowest zero i g h l = absurd (omega arith)
  lowest (suc f) i g h l =
      by_cases (ℕ_discrete i 1)
      (λ (e : i ≡ 1). omega (arith, ap (λ (i : ℕ). get_or nodes i 0) e))
      (λ (d : i ≢ 1).
      let up = t.inner (i / 2) (omega arith) (omega arith) in
      let r = lowest f (i / 2) (omega arith) (omega arith) (omega arith) in
      by_cases (ℕ_discrete i (2 * (i / 2)))
      (λ (e : i ≡ 2 * (i / 2)). omega (arith, r, up.left, ap (λ (i : ℕ). get_or nodes i 0) e))
      (λ (e : i ≢ 2 * (i / 2)).
      let q : i ≡ 2 * (i / 2) + 1 = omega arith in
      omega (arith, r, up.right, ap (λ (i : ℕ). get_or nodes i 0) q)))

  winner-lightest : 0 < length loads → length loads ≤ max_blocks → {r : ℕ} → r ≡ get_or nodes 1 0 % 1_024 → r ≡ lightest loads
  winner-lightest some few {r} e =
      let w = keyed (2 * length loads) 1 (omega arith) (omega arith) (omega arith) in
      let s : r ≡ w.block = omega (arith, e, w.keys, w.inside) in
      let below : (i : ℕ) → i < length loads → key (get_or loads w.block 0) w.block ≤ key (get_or loads i 0) i =
      λ i l. omega (arith, w.keys, t.leaves i l, lowest (length loads + i) (length loads + i) (le_refl (length loads + i)) (omega arith) (omega arith)) in
      s
      ∙ lightest-found
      (record {
        inside = w.inside;
        least = λ i l. omega (arith, below i l, w.inside);
        first =
            λ i l.
            by_cases (dec_lt (get_or loads w.block 0) (get_or loads i 0)) (λ g. inl g)
            (λ (g : get_or loads w.block 0 < get_or loads i 0 → ⊥). inr (omega (arith, below i l, w.inside)));
      })

-- the replaying is over
pub replay-done : {loads nodes : List ℕ} {at least : ℕ} → Replaying loads nodes at least → at ≤ 1 → 0 < length loads
    → {r : ℕ} → r ≡ least % 1_024 → Tournament loads nodes × (r ≡ lightest loads)
replay-done {loads} {nodes} {at} {least} k h some {r} e =
    let t = play-done k.playing h (omega arith) in
    let one : at ≡ 1 = omega (arith, k.playing.low) in
    (t, winner-lightest t some k.few (e ∙ ap (λ (v : ℕ). v % 1_024) (sym k.held ∙ ap (λ (i : ℕ). get_or nodes i 0) one)))

-- there was nothing to replay: the load is as it was
pub replay-none : {b : ℕ} {loads nodes : List ℕ} → Outdated b loads nodes → {v : ℕ} → get_or nodes (length loads + b) 0 ≡ v → v ≡ key (get_or loads b 0) b
    → {r : ℕ} → r ≡ get_or nodes 1 0 % 1_024 → Tournament loads nodes × (r ≡ lightest loads)
replay-none {b} {loads} {nodes} o e f q =
    let t : Tournament loads nodes =
    record {
      size = o.played.size;
      leaves =
          λ j l.
          by_cases (ℕ_discrete j b)
          (λ (s : j ≡ b). rw s (e ∙ f))
          (λ d. rw (o.size, o.others j d) (o.played.leaves j (omega (arith, o.size))));
      inner = λ i h l. o.played.inner i h (omega (arith, o.size));
    } in
    (t, winner-lightest t (omega (arith, o.inside)) o.few q)
