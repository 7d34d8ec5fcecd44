-- Counting bucket after bucket: where the loop stands, and its turns.
-- Assumes nothing.
use mathlib.Core.Path.{◌≡◌, refl, sym, ap, subst, ◌∙◌}
use mathlib.Core.Logic.{◌≢◌, by_cases}
use mathlib.Core.List.{List}
use Prim.Native.Nat.{ℕ, ◌+◌, ◌-◌, ◌≤◌, ◌<◌}
use native.Mathlib.Numerals.{add-one}
use native.Mathlib.Decide.{ℕ_discrete}
use native.Mathlib.Omega.{arith}
use lib.ListN.{length, get_or, set, take, drop, length-set, length-drop}
use lib.Seq.{length-take-le, get_or-drop, get_or-take, get_or-set_same, get_or-set_other}
use Rattle.refusal.specs.Limits.{max_edges}
use Rattle.sorting.specs.Sorted.{begin, bucket_of}
use Rattle.block_count.specs.declared.counting.Met.{Met}
use Rattle.block_count.specs.CountingSteps.{Fresh, CountableAt, Counts, known, known_at, CountedAt, Bucketed, Counted}

-- a part of a table, from one place up to another
abbrev part : ℕ → ℕ → List ℕ → List ℕ
part f t l = take (t - f) (drop f l)

part_length : (f t : ℕ) (l : List ℕ) → t ≤ length l → length (part f t l) ≡ t - f
part_length f t l h = length-take-le (t - f) (drop f l) (simp length-drop (omega arith))

part-entry : (f t i : ℕ) (l : List ℕ) → i < t - f → get_or (part f t l) i 0 ≡ get_or l (f + i) 0
part-entry f t i l h = get_or-take (t - f) (drop f l) i 0 h ∙ get_or-drop f l i 0

-- the vertices below y are counted; of the others the table of edges that are taken still tells how many lead up
pub record CountTurn (k : ℕ) (ends lower upward block counts taken pending stamps : List ℕ) (at y : ℕ) : Type 0 where
  pub within : y ≤ length ends
  pub start : at ≡ begin ends y
  pub counts_long : length counts ≡ length ends
  pub taken_long : length taken ≡ length ends
  pub pending_long : length pending ≡ length ends
  pub all : length stamps ≡ k
  pub fresh : Fresh stamps (y + 1)
  pub ahead : (x : ℕ) → y ≤ x → get_or taken x 0 ≡ get_or upward x 0
  pub each : (x : ℕ) → x < y → CountedAt k block x (get_or upward x 0) (bucket_of ends lower x) (get_or counts x 0) (get_or taken x 0) (get_or pending x 0)

module _ {ends lower upward block : List ℕ} {k : ℕ} {counts₀ pending₀ stamps₀ : List ℕ} (b : Bucketed ends lower upward block k counts₀ pending₀ stamps₀) where
  pub turn-start : CountTurn k ends lower upward block counts₀ upward pending₀ stamps₀ 0 0
  unfolding begin
  turn-start = record {
    within = omega arith;
    start = refl;
    counts_long = b.counts_long;
    taken_long = b.counted;
    pending_long = b.pending_long;
    all = b.all;
    fresh = b.fresh;
    ahead = λ x h. refl;
    each = λ x h. absurd (omega arith);
  }

  module _ {counts taken pending stamps : List ℕ} {at y : ℕ} (t : CountTurn k ends lower upward block counts taken pending stamps at y) (h : y < length ends)
      {end : ℕ} (e : end ≡ get_or ends y 0) where
    pub turn-order : at ≤ end
    turn-order = omega (arith, t.start, b.buckets.rising y h)

    pub turn-room : end ≤ length lower
    turn-room = omega (arith, b.buckets.room y h)

    pub turn-short : end - at ≤ max_edges
    turn-short = omega (arith, b.short y h)

    pub turn-meets : CountableAt y k (part at end lower) block stamps
    turn-meets = record {
      inside = omega (arith, b.blocked);
      few = omega (arith, b.blocked, b.buckets.few);
      neighbours = λ i l.
          let r : i < end - at = omega (arith, part_length at end lower turn-room) in
          omega (arith, part-entry at end i lower r, b.neighbours y (at + i) h (omega arith), b.blocked);
      blocks = λ x l. b.blocks x (omega (arith, b.blocked));
      all = t.all;
      small = b.small;
      fresh = t.fresh;
    }

    up_is : get_or taken y 0 ≡ get_or upward y 0
    up_is = t.ahead y (omega arith)

    pub turn_up : get_or taken y 0 ≤ max_edges
    turn_up = omega (arith, up_is, b.few_upward y h)

    module _ {stamps' : List ℕ} {r : Met} (counts-so : Counts k block y (get_or taken y 0) (part at end lower) stamps' r) where
      s : Counts k block y (get_or upward y 0) (part at end lower) stamps' r
      s = subst (λ (u : ℕ). Counts k block y u (part at end lower) stamps' r) up_is counts-so

      pub turn-read : r.read ≤ max_edges
      turn-read = omega (arith, s.found.within, part_length at end lower turn-room, turn-short)

      counted-here : {u v : ℕ} → known u v ≡ known_at k (get_or upward y 0) (end - at) r.count r.read
          → CountedAt k block y (get_or upward y 0) (bucket_of ends lower y) r.count u v
      unfolding bucket_of
      counted-here {u} {v} f =
          subst (λ (l : List ℕ). CountedAt k block y (get_or upward y 0) l r.count u v) (λ i. part (t.start i) (e i) lower)
          (record {
            read = r.read;
            met = s.found;
            so_known = f ∙ ap (λ (m : ℕ). known_at k (get_or upward y 0) m r.count r.read) (sym (part_length at end lower turn-room));
          })

      pub turn_step : length stamps' ≡ length stamps → {u v : ℕ} → known u v ≡ known_at k (get_or taken y 0) (end - at) r.count r.read
          → CountTurn k ends lower upward block (set counts y r.count) (set taken y u) (set pending y v) stamps' end (y + 1)
      unfolding begin
      turn_step l {u} {v} f = record {
        within = omega arith;
        start = e ∙ next;
        counts_long = length-set counts y r.count ∙ t.counts_long;
        taken_long = length-set taken y u ∙ t.taken_long;
        pending_long = length-set pending y v ∙ t.pending_long;
        all = l ∙ t.all;
        fresh = record { older = λ j. omega (arith, s.known j) };
        ahead = λ x i. get_or-set_other taken y x u 0 (past x i) ∙ t.ahead x (omega arith);
        each = λ x i. by_cases (ℕ_discrete x y) (here x) (other x i);
      }
        where
          next : get_or ends y 0 ≡ begin ends (y + 1)
          next = rw add-one refl

          past : (x : ℕ) → y + 1 ≤ x → x ≢ y
          past x i d = omega arith

          here : (x : ℕ) → x ≡ y → CountedAt k block x (get_or upward x 0) (bucket_of ends lower x) (get_or (set counts y r.count) x 0) (get_or (set taken y u) x 0) (get_or (set pending y v) x 0)
          here x d =
              rw (d, get_or-set_same counts y r.count 0 (omega (arith, t.counts_long)), get_or-set_same taken y u 0 (omega (arith, t.taken_long)), get_or-set_same pending y v 0 (omega (arith, t.pending_long)))
              (counted-here (f ∙ ap (λ (m : ℕ). known_at k m (end - at) r.count r.read) up_is))

          other : (x : ℕ) → x < y + 1 → x ≢ y → CountedAt k block x (get_or upward x 0) (bucket_of ends lower x) (get_or (set counts y r.count) x 0) (get_or (set taken y u) x 0) (get_or (set pending y v) x 0)
          other x i d =
              rw (get_or-set_other counts y x r.count 0 d, get_or-set_other taken y x u 0 d, get_or-set_other pending y x v 0 d) (t.each x (below i d))
            where
              below : x < y + 1 → (x ≡ y → ⊥) → x < y
              below i d = omega arith

pub turn_end : {k : ℕ} {ends lower upward block counts taken pending stamps : List ℕ} {at y : ℕ}
    → CountTurn k ends lower upward block counts taken pending stamps at y → length ends ≤ y → Counted k ends lower upward block counts taken pending
turn_end t h = record { each = λ x l. t.each x (omega arith) }
