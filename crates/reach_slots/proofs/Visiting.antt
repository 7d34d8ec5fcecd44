-- The count over the slots. The latest earlier edge of y gives the end of the path of the next one, since the lower ends of each
-- subtree come in one stretch: the path ends at the lowest vertex at or above the earlier lower end that is not over.
-- Assumes nothing.
use mathlib.Core.Path.{◌≡◌, refl, sym, ap, ap₂, ◌∙◌}
use mathlib.Core.Logic.{◌≢◌, inl, inr, ⊎_elim, by_cases}
use mathlib.Core.List.Memᴰ
use mathlib.Core.List.{List, [], ◌∷◌, Memᴰ}
use Prim.Native.Nat.{ℕ, ◌+◌, ◌-◌, ◌^◌, ◌≤◌, ◌<◌, min}
use native.Mathlib.Nat.{add-zero, le_refl, le_of_lt, lt_of_lt_of_le, lt_trans, min-eq_left}
use native.Mathlib.Decide.{ℕ_discrete, dec_lt}
use native.Mathlib.Omega.{arith}
use lib.ListN.{length, get_or, set, length-set}
use lib.Seq.{get_or-set_same, get_or-set_other}
use Rattle.game.specs.Edge.{Edge, ◌─◌, lower}
use Rattle.game.specs.Game.{absent}
use Rattle.game.specs.Table.{count}
use Rattle.game.specs.Net.{reach}
use Rattle.reach_slots.specs.Given.{lower_count}
use Rattle.game.proofs.Proper.{edge-left, edge-right}
use Rattle.game.proofs.Climbs.{Climbs, top}
use Rattle.reach_slots.specs.Balance.{child_sum, Balanced}
use Rattle.reach_slots.specs.Jumps.{Jumps, Under, Found}
use Rattle.reach_slots.specs.Layout.{Own}
use Rattle.reach_slots.specs.InSlots.{upward}
use Rattle.reach_slots.specs.Visit.{Slotted, Empty}
use Rattle.game.proofs.Subtree.{climbs-trans}
use Rattle.reach_slots.proofs.Children.{unit, unit-here, unit-elsewhere, unit-small, child_sum-ext, child_sum-add, child_sum-none}
use Rattle.reach_slots.proofs.Paths.{lit, path-balance}
use Rattle.reach_slots.proofs.Growing.{Ends, Upward, reach_step}
use Rattle.reach_slots.proofs.SameEdges.{reach-same, reach-none}
use Rattle.reach_slots.proofs.Slots.{own-unique, own_below}
use Rattle.reach_slots.proofs.Turns.{Turn, Slot, turn-start, turn-next}

-- the latest slot before k with an edge of y is one of v's, or there is none and v is absent
pub record Latest (w stops filed : List ℕ) (k y v : ℕ) : Type 0 where
  pub none : v ≡ absent → (x j : ℕ) → Own w stops x j → j < k → get_or filed j 0 ≢ y
  pub slot : v ≢ absent
      → (j : ℕ) × Own w stops v j × (j < k) × (get_or filed j 0 ≡ y)
      × ((x i : ℕ) → Own w stops x i → i < k → get_or filed i 0 ≡ y → i ≤ j)

-- the edges of the slots before k, and no others, are in the list
pub record Passed (w stops filed : List ℕ) (k : ℕ) (visited : List Edge) : Type 0 where
  pub all : (x j : ℕ) → Own w stops x j → j < k → Memᴰ (x ─ get_or filed j 0) visited
  pub placed : (x y : ℕ) → Memᴰ (x ─ y) visited → (j : ℕ) × Own w stops x j × (j < k) × (get_or filed j 0 ≡ y)

module _ {p w stops ends filed first slots : List ℕ} {es : List Edge} (g : Slotted p w es filed stops ends first slots) where
  -- an edge in a slot goes up the forest
  slot-climb : {x k y : ℕ} → Own w stops x k → y ≡ get_or filed k 0 → (x < y) × (y < length p) × Climbs p y x
  slot-climb {x} {k} {y} o e = g.climb x y (rw e (g.content.sound x k o))

  module _ {k u y stop : ℕ} (s : Slot w stops filed k u y stop) where
    up : Climbs p y u
    up = (slot-climb s.own s.upper).2

    -- y is not over, since one of its subtree's slots is k
    ahead : k < get_or ends y 0
    ahead = (g.layout.stretch u u k k y s.own s.own (le_refl k) up).0 up

    -- the latest earlier lower end is under y
    slot-under : {v : ℕ} → Latest w stops filed k y v → Under p ends k v y
    slot-under t =
        record {
          entries = g.layout.ends_entries;
          inside = (slot-climb s.own s.upper).1;
          unfinished = ahead;
          lower = λ d. let (j, o, b, e, m) = t.slot d in (slot-climb o (sym e)).2;
        }

    -- so the path ends where the climb from there does
    slot-ends : {v r : ℕ} {visited : List Edge} → Latest w stops filed k y v → Passed w stops filed k visited → Found p ends k v y r
        → Ends p visited u y r
    slot-ends {v} {r} {visited} t q f = by_cases (ℕ_discrete v absent) fresh again
      where
        fresh : v ≡ absent → Ends p visited u y r
        fresh e =
            rw (f.none e)
            (record {
              climb = up;
              met = λ x c. inl c;
              here = top;
              first = λ x c m. let (j, o, b, d) = q.placed m.lower y m.edge in absurd (t.none e m.lower j o b d);
            })

        again : v ≢ absent → Ends p visited u y r
        again n =
            let low = f.lowest n in
            let (j, o, b, e, latest) = t.slot n in
            record {
              climb = (g.layout.stretch v u j k r o s.own (le_of_lt b) low.climb).1 low.unfinished;
              met = λ x c. inr (record { lower = v; edge = rw e at (q.all v j o b); climb = climbs-trans low.climb c });
              here = low.least y (slot-climb o (sym e)).2 ahead;
              first = λ x c m.
                  let (i, a, h, d) = q.placed m.lower y m.edge in
                  let before : i ≤ j = latest m.lower i a h d in
                  let here : k < get_or ends x 0 = (g.layout.stretch m.lower u i k x a s.own (le_of_lt h) m.climb).0 c in
                  low.least x ((g.layout.stretch m.lower v i j x a o before m.climb).1 (lt_trans b here)) here;
            }

-- the slots before k are gone over
pub record Visited (p w stops filed : List ℕ) (k : ℕ) (previous overlaps : List ℕ) : Type 0 where
  pub edges : List Edge
  pub passed : Passed w stops filed k edges
  pub upward : Upward edges
  pub latest : (y : ℕ) → y < length p → Latest w stops filed k y (get_or previous y 0)
  pub counts : (x : ℕ) → x < length p → lower_count edges x ≡ min (k + get_or w x 0 - get_or stops x 0) (get_or w x 0)
  pub balance : (x : ℕ) → x < length p → reach p edges x + get_or overlaps x 0 ≡ lower_count edges x + child_sum p (reach p edges) x x
  pub few : (x : ℕ) → x < length p → get_or overlaps x 0 ≤ k

-- what may be passed at a slot may be passed later
jumps-later : {p ends ancestor : List ℕ} {k : ℕ} → Jumps p ends ancestor k → Jumps p ends ancestor (k + 1)
jumps-later js =
    record {
      sound = js.sound;
      entries = js.entries;
      each = λ x h d.
          let j = js.each x h d in
          record { higher = j.higher; climb = j.climb; passed = λ z l c o. j.passed z l c (omega arith) };
    }

module _ {p w stops ends filed first slots : List ℕ} {es : List Edge} (g : Slotted p w es filed stops ends first slots)
    {k u y stop : ℕ} (s : Slot w stops filed k u y stop) where
  lower-end : u < length p
  lower-end = rw g.layout.entries at s.own.inside

  here : u < y
  here = (slot-climb g s.own s.upper).0

  -- the edge in slot k is one more
  passed-next : {visited : List Edge} → Passed w stops filed k visited → Passed w stops filed (k + 1) ((u ─ y) ∷ visited)
  passed-next {visited} q = record { all = all'; placed = placed' }
    where
      all' : (x j : ℕ) → Own w stops x j → j < k + 1 → Memᴰ (x ─ get_or filed j 0) ((u ─ y) ∷ visited)
      all' x j o b =
          by_cases (ℕ_discrete j k)
          (λ (e : j ≡ k).
          let same : x ≡ u = own-unique g.layout (rw e at o) s.own in
          let top : get_or filed j 0 ≡ y = ap (λ i. get_or filed i 0) e ∙ sym s.upper in
          Memᴰ.head (ap₂ ◌─◌ same top))
          (λ (d : j ≢ k). Memᴰ.tail (q.all x j o (omega arith)))

      placed' : (x z : ℕ) → Memᴰ (x ─ z) ((u ─ y) ∷ visited) → (j : ℕ) × Own w stops x j × (j < k + 1) × (get_or filed j 0 ≡ z)
      placed' x z m =
          ⊎_elim
          (λ (e : (x ─ z) ≡ (u ─ y)). (k, rw (edge-left e) s.own, omega arith, sym s.upper ∙ sym (edge-right e)))
          (λ t. let (j, o, b, e) = q.placed x z t in (j, o, omega arith, e))
          (Memᴰ.cases_cons m)

  -- for y it is the latest
  latest-here : Latest w stops filed (k + 1) y u
  latest-here =
      record {
        none = λ e. absurd (let n = g.layout.short in let l = lower-end in omega arith);
        slot = λ d. (k, s.own, omega arith, sym s.upper, λ x i o b e. omega arith);
      }

  -- for others nothing changes
  latest-other : {z v : ℕ} → z ≢ y → Latest w stops filed k z v → Latest w stops filed (k + 1) z v
  latest-other {z} {v} d t =
      record {
        none = λ e x j o b. by_cases (ℕ_discrete j k) (λ (q : j ≡ k). rw q apart) (λ q. t.none e x j o (omega arith));
        slot = λ n.
            let (j, o, b, e, m) = t.slot n in
            (j, o, omega arith, e, λ x i a h f. by_cases (ℕ_discrete i k) (λ (q : i ≡ k). absurd (apart (rw q at f))) (λ q. m x i a (omega arith) f));
      }
    where
      apart : get_or filed k 0 ≢ z
      apart e = d (sym e ∙ sym s.upper)

  -- the lower end weighs one more
  weight-more : (visited : List Edge) (x : ℕ) → lower_count ((u ─ y) ∷ visited) x ≡ unit u x + lower_count visited x
  unfolding lower_count count lower
  weight-more visited x = rw (min-eq_left (le_of_lt here))

  -- slot k is u's and no other's
  weight-next : (visited : List Edge) (x : ℕ) → x < length p → lower_count visited x ≡ min (k + get_or w x 0 - get_or stops x 0) (get_or w x 0)
      → lower_count ((u ─ y) ∷ visited) x ≡ min (k + 1 + get_or w x 0 - get_or stops x 0) (get_or w x 0)
  weight-next visited x h e =
      by_cases (ℕ_discrete u x)
      (λ (q : u ≡ x).
      let o : Own w stops x k = rw q at s.own in
      omega (arith, weight-more visited x, unit-here u x q, o.from, o.to))
      (λ (d : u ≢ x). by_cases (dec_lt k (get_or stops x 0))
      (λ (b : k < get_or stops x 0). by_cases (dec_lt (k + get_or w x 0) (get_or stops x 0))
      (λ (a : k + get_or w x 0 < get_or stops x 0). omega (arith, weight-more visited x, unit-elsewhere u x d))
      (λ (a : ¬ (k + get_or w x 0 < get_or stops x 0)).
      absurd (d (own-unique g.layout s.own (record { inside = rw g.layout.entries h; from = omega arith; to = b })))))
      (λ (b : ¬ (k < get_or stops x 0)). omega (arith, weight-more visited x, unit-elsewhere u x d)))

  module _ {r : ℕ} {previous overlaps previous' overlaps' : List ℕ} (v : Visited p w stops filed k previous overlaps)
      (f : Found p ends k (get_or previous y 0) y r) (eo : length overlaps ≡ length p) (ep : length previous ≡ length p)
      (so : overlaps' ≡ set overlaps r (get_or overlaps r 0 + 1)) (sp : previous' ≡ set previous y u) where
    upper-end : y < length p
    upper-end = (slot-climb g s.own s.upper).1

    path : Ends p v.edges u y r
    path = slot-ends g s (v.latest y upper-end) v.passed f

    -- one path more ends at r
    overlap : (x : ℕ) → get_or overlaps' x 0 ≡ get_or overlaps x 0 + unit r x
    overlap x =
        by_cases (ℕ_discrete x r)
        (λ (e : x ≡ r). rw (so, e, get_or-set_same overlaps r (get_or overlaps r 0 + 1) 0 (rw eo f.inside), unit-here r r refl))
        (λ (d : x ≢ r). rw (so, get_or-set_other overlaps r x (get_or overlaps r 0 + 1) 0 d, unit-elsewhere r x (λ e. d (sym e)), add-zero))

    -- the reaches grow along the path
    reached : (x : ℕ) → reach p ((u ─ y) ∷ v.edges) x ≡ reach p v.edges x + lit p u r x
    reached x = reach_step g.layout.sound g.layout.short v.upward here path x

    balance' : (x : ℕ) → x < length p
        → reach p ((u ─ y) ∷ v.edges) x + get_or overlaps' x 0 ≡ lower_count ((u ─ y) ∷ v.edges) x + child_sum p (reach p ((u ─ y) ∷ v.edges)) x x
    balance' x h =
        let sums : child_sum p (reach p ((u ─ y) ∷ v.edges)) x x ≡ child_sum p (reach p v.edges) x x + child_sum p (lit p u r) x x =
        child_sum-ext p (reach p ((u ─ y) ∷ v.edges)) (λ z. reach p v.edges z + lit p u r z) x x (λ z b. reached z)
        ∙ child_sum-add p (reach p v.edges) (lit p u r) x x in
        omega (
          arith,
          reached x,
          overlap x,
          weight-more v.edges x,
          sums,
          v.balance x h,
          path-balance g.layout.sound g.layout.short path.climb x,
        )

    latest' : (z : ℕ) → z < length p → Latest w stops filed (k + 1) z (get_or previous' z 0)
    latest' z h =
        by_cases (ℕ_discrete z y)
        (λ (e : z ≡ y). rw (sp, e, get_or-set_same previous y u 0 (rw ep upper-end)) latest-here)
        (λ (d : z ≢ y). rw (sp, get_or-set_other previous y z u 0 d) (latest-other d (v.latest z h)))

    -- slot k is gone over
    visited-step : Visited p w stops filed (k + 1) previous' overlaps'
    visited-step =
        record {
          edges = (u ─ y) ∷ v.edges;
          passed = passed-next v.passed;
          upward = record { each = λ a b m. ⊎_elim (λ (e : (a ─ b) ≡ (u ─ y)). rw (edge-left e, edge-right e) here) (v.upward.each a b) (Memᴰ.cases_cons m) };
          latest = latest';
          counts = λ x h. weight-next v.edges x h (v.counts x h);
          balance = balance';
          few = λ x h. omega (arith, overlap x, unit-small r x, v.few x h);
        }

module _ {p w stops ends filed first slots : List ℕ} {es : List Edge} (g : Slotted p w es filed stops ends first slots) where
  -- at first no slot is gone over
  visited-first : {ancestor previous overlaps : List ℕ} → Empty p ends ancestor previous overlaps → Visited p w stops filed 0 previous overlaps
  unfolding lower_count count
  visited-first e =
      record {
        edges = [];
        passed = record { all = λ x j o b. absurd (omega arith); placed = λ x y m. absurd (Memᴰ.not-nil m) };
        upward = record { each = λ a b m. absurd (Memᴰ.not-nil m) };
        latest = λ y h. record { none = λ a x j o b. absurd (omega arith); slot = λ d. absurd (d (e.none y h)) };
        counts = λ x h. omega (arith, g.layout.room x h);
        balance = λ x h. omega (arith, reach-none p x, e.zero x h, child_sum-none p (reach p []) x x (λ c l q. reach-none p c));
        few = λ x h. omega (arith, e.zero x h);
      }

  -- at last all are, and the reaches balance
  pub visited-last : {k : ℕ} {previous overlaps : List ℕ} → length slots ≤ k → Visited p w stops filed k previous overlaps
      → Balanced p w overlaps (reach p es)
  visited-last {k} {previous} {overlaps} h v =
      record {
        each = λ x l.
            omega (
              arith,
              same x,
              v.balance x l,
              v.counts x l,
              g.layout.room x l,
              child_sum-ext p (reach p v.edges) (reach p es) x x (λ c b. same c),
            );
      }
    where
      inside : (e : Edge) → Memᴰ e v.edges → Memᴰ e (upward es)
      inside (x ─ y) m = let (j, o, b, e) = v.passed.placed x y m in rw e at (g.content.sound x j o)

      all : (e : Edge) → Memᴰ e (upward es) → Memᴰ e v.edges
      all (x ─ y) m =
          let (j, o, e) = g.content.complete x y m in
          rw e at (v.passed.all x j o (lt_of_lt_of_le (own_below g.layout o) h))

      same : (x : ℕ) → reach p v.edges x ≡ reach p es x
      same x = reach-same p es inside all x

-- the loop has come to slot k: u is the lower end of the slot before, and its slots stop at `stop`
pub record Counting (p w : List ℕ) (es : List Edge) (filed stops ends first slots ancestor previous overlaps : List ℕ) (k u stop : ℕ) : Type 0 where
  pub slotted : Slotted p w es filed stops ends first slots
  pub previous_entries : length previous ≡ length p
  pub overlaps_entries : length overlaps ≡ length p
  pub turn : Turn w stops k u stop
  pub jumps : Jumps p ends ancestor k
  pub visited : Visited p w stops filed k previous overlaps

-- at first
pub counting-first : {p w filed stops ends first slots ancestor previous overlaps : List ℕ} {es : List Edge} {u : ℕ}
    → Slotted p w es filed stops ends first slots → Empty p ends ancestor previous overlaps
    → Counting p w es filed stops ends first slots ancestor previous overlaps 0 u 0
counting-first g e =
    record {
      slotted = g;
      previous_entries = e.previous_entries;
      overlaps_entries = e.overlaps_entries;
      turn = turn-start g.layout;
      jumps = e.jumps;
      visited = visited-first g e;
    }

-- at slot k, with its edge
module _ {p w filed stops ends first slots ancestor previous overlaps : List ℕ} {es : List Edge} {k u₀ stop₀ u y stop : ℕ}
    (c : Counting p w es filed stops ends first slots ancestor previous overlaps k u₀ stop₀) (s : Slot w stops filed k u y stop) where
  -- its upper end is a vertex
  pub slot-inside : y < length previous
  slot-inside = rw c.previous_entries (slot-climb c.slotted s.own s.upper).1

  module _ {v : ℕ} (rv : v ≡ get_or previous y 0) where
    -- the latest lower end before it is under that
    pub path-under : Under p ends k v y
    path-under = rw rv (slot-under c.slotted s (c.visited.latest y (slot-climb c.slotted s.own s.upper).1))

    module _ {r : ℕ} (f : Found p ends k v y r) where
      -- there is room for one path more
      pub overlap-fits : k < length slots → (r < length overlaps) × (get_or overlaps r 0 + 1 < 2 ^ 32)
      overlap-fits h = (rw c.overlaps_entries f.inside, omega (arith, c.visited.few r f.inside, c.slotted.few))

      -- the next slot
      pub counting-step : {ancestor' previous' overlaps' : List ℕ} → Jumps p ends ancestor' k
          → overlaps' ≡ set overlaps r (get_or overlaps r 0 + 1) → previous' ≡ set previous y u
          → Counting p w es filed stops ends first slots ancestor' previous' overlaps' (k + 1) u stop
      counting-step js so sp =
          record {
            slotted = c.slotted;
            previous_entries = ap length sp ∙ simp length-set c.previous_entries;
            overlaps_entries = ap length so ∙ simp length-set c.overlaps_entries;
            turn = turn-next c.slotted.layout s;
            jumps = jumps-later js;
            visited = visited-step c.slotted s c.visited (rw rv at f) c.overlaps_entries c.previous_entries so sp;
          }
