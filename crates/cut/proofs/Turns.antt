-- The turns of the loop that cuts children of x, the heaviest first.
-- Assumes nothing.
use mathlib.Core.Path.{◌≡◌, refl, sym, ap, subst, ◌∙◌}
use mathlib.Core.Logic.{◌≢◌, ◌⊎◌, inl, inr, ⊎_elim, by_cases}
use mathlib.Core.Bool.{Bool, true, false, cond}
use mathlib.Core.List.{List, map, Memᴰ}
use Prim.Native.Nat.{ℕ, suc, ◌+◌, ◌-◌, ◌*◌, ◌≤◌, ◌<◌}
use native.Mathlib.Nat.{le_refl}
use native.Mathlib.Decide.{ℕ_discrete, dec_lt}
use native.Mathlib.Omega.{arith}
use lib.Dec.{eqb}
use lib.ListN.{length, get_or, set, length-set}
use lib.Seq.{get_or-set_same, get_or-set_other}
use borrow.Author.Tests.{ltb-false, ltb-true, eqb-true, eq-eqb, ne_eqb}
use Rattle.game.specs.Table.{sum}
use Rattle.game.specs.Game.{absent}
use Rattle.game.proofs.Sound.{get_d_default}
use Rattle.game.proofs.Bools.{test-cases}
use Rattle.game.proofs.Lists.{Rising, rising_down, rising-ext}
use Rattle.refusal.specs.Limits.{max_vertices, max_total}
use Rattle.cut.specs.Cut.{carries, without, trim}
use Rattle.cut.specs.Steps.{Chain, hanging, Loaded, Candidates, Released, Trimmed}
use Rattle.cut.proofs.Lists.{rising-without, without_in, in_without, without-shorter, sum-without, sum-entry-in}
use Rattle.cut.proofs.Trimming.{Heaviest, trim-cut, trim-enough}
use Rattle.cut.proofs.Carried.{entry, below_in, in-below, below-rising}
use Rattle.cut.proofs.Chains.{After, chain_same, chain-after}
use Rattle.cut.proofs.Scan.{Scan, scan-inside, scan-up, scan-take, scan-pass, scan-stop, scan-end, scan-none}

-- nothing is released yet
pub released-none : {x floor : ℕ} {carried link : List ℕ} → Released x floor carried link link
released-none = record { each = λ y. inl refl }

-- what hangs on x still hung on it before
pub released-hung : {x floor : ℕ} {carried was link : List ℕ} → Released x floor carried was link → length link ≡ length was → x < length was
    → (z : ℕ) → Memᴰ z (hanging link x) → Memᴰ z (hanging was x)
released-hung {x} {was = was} {link = link} m e l z h =
    let i = below_in link x x h in
    ⊎_elim
    (λ (q : get_or link z 0 ≡ get_or was z 0).
    in-below was x x i.0 (get_d_default was z absent 0 (omega arith) ∙ sym q ∙ sym (get_d_default link z absent 0 (omega arith)) ∙ i.1))
    (λ b. b.0)
    (m.each z)

-- Where the loop stands. `was` is the table at first, `link` the table now. `uncut` is what the uncut children carry together, none of
-- them more than `most`; those that carry as much, and more than `floor`, stand in the list from `start` on.
pub record Turn (x weight B floor first : ℕ) (next carried was link : List ℕ) (uncut most start : ℕ) : Type 0 where
  pub size : length link ≡ length was
  pub fuel : ℕ
  pub enough : length (hanging link x) ≤ fuel
  pub same : trim fuel (entry carried) B weight (hanging link x) ≡ trim (length (hanging was x)) (entry carried) B weight (hanging was x)
  pub together : uncut ≡ sum (map (entry carried) (hanging link x))
  pub small : weight + uncut ≤ max_total
  pub moved : Released x floor carried was link
  pub most_of : (z : ℕ) → Memᴰ z (hanging link x) → entry carried z ≤ most
  pub rest : List ℕ
  pub chain : Chain next start rest
  pub lower : (z : ℕ) → Memᴰ z rest → z < x
  pub rising : Rising 0 rest
  pub ahead : (z : ℕ) → Memᴰ z (hanging link x) → floor < entry carried z → Memᴰ z rest ⊎ (entry carried z < most)

-- h is the heaviest that hangs on x, and carries f
pub record Found (carried link : List ℕ) (x floor h f : ℕ) : Type 0 where
  pub heaviest : Heaviest (entry carried) (hanging link x) h
  pub carries : entry carried h ≡ f
  pub over : floor < f

-- how many turns are left at most: one for each uncut child, and one more before each where the scan has to begin anew
pub turns_left : List ℕ → ℕ → ℕ → ℕ → ℕ
turns_left link x first start = 2 * length (hanging link x) + cond (eqb start first) 0 1

one_more : (b : Bool) → cond b 0 1 ≤ 1
one_more true = omega arith
one_more false = omega arith

pub restart-less : (link : List ℕ) (x first start : ℕ) → start ≢ first → turns_left link x first first < turns_left link x first start
unfolding turns_left
restart-less link x first start d = rw (eq-eqb first first refl, ne_eqb start first d) (omega arith)

-- where the scan stands, by the tables
pub record Scanning (next carried link : List ℕ) (x floor first most start h f child : ℕ) : Type 0 where
  pub scan : Scan (entry carried) next (hanging link x) x floor first most start h f child
  pub least : floor ≤ f

module _ {x weight uncut₀ B floor first : ℕ} {next carried was : List ℕ} (k : Loaded x weight uncut₀ B next carried was)
    (n : Candidates x floor first next carried was) where
  low : x ≤ absent
  low = omega (arith, k.inside, k.few)

  pub turn-begin : Turn x weight B floor first next carried was was uncut₀ B first
  turn-begin =
      record {
        size = refl;
        fuel = length (hanging was x);
        enough = le_refl (length (hanging was x));
        same = refl;
        together = k.together;
        small = k.small;
        moved = released-none;
        most_of = λ z m. k.each z (below_in was x x m).0;
        rest = n.list;
        chain = n.chain;
        lower = n.lower;
        rising = n.rising;
        ahead = λ z m l. inl (n.all z m l);
      }

  module _ {link : List ℕ} {uncut most start : ℕ} (t : Turn x weight B floor first next carried was link uncut most start) where
    pub turn_inside : x < length link
    turn_inside = omega (arith, t.size, k.inside)

    pub turn-few : length link ≤ max_vertices
    turn-few = omega (arith, t.size, k.few)

    hung : (z : ℕ) → Memᴰ z (hanging link x) → Memᴰ z (hanging was x)
    hung = released-hung t.moved t.size k.inside

    pub scan-begin : Scanning next carried link x floor first most start 0 floor start
    scan-begin = record { scan = begin; least = le_refl floor }
      where
        whole : start ≡ first → (z : ℕ) → Memᴰ z (hanging link x) → floor < entry carried z → Memᴰ z t.rest
        whole e z m l =
            subst (λ (r : List ℕ). Memᴰ z r)
            (chain_same (λ v i. omega (arith, low, n.lower v i)) (λ v i. omega (arith, low, t.lower v i)) n.chain (subst (λ (v : ℕ). Chain next v t.rest) e t.chain))
            (n.all z (hung z m) l)

        begin : Scan (entry carried) next (hanging link x) x floor first most start 0 floor start
        begin =
            record {
              rest = t.rest;
              chain = t.chain;
              lower = t.lower;
              rising = t.rising;
              met =
                  λ z m.
                  by_cases (dec_lt floor (entry carried z))
                  (λ l. by_cases (ℕ_discrete start first) (λ e. inl (whole e z m l)) (λ d. ⊎_elim (λ r. inl r) (λ g. inr (inr (g, d))) (t.ahead z m l)))
                  (λ (l : floor < entry carried z → ⊥).
                  by_cases (dec_lt (entry carried z) floor) (λ g. inr (inl (inl g))) (λ (g : entry carried z < floor → ⊥). inr (inl (inr (omega arith, omega arith)))));
              some = inl refl;
            }

    -- the scan begins anew at the first of the list
    pub turn-restart : Turn x weight B floor first next carried was link uncut most first
    turn-restart =
        record {
          size = t.size;
          fuel = t.fuel;
          enough = t.enough;
          same = t.same;
          together = t.together;
          small = t.small;
          moved = t.moved;
          most_of = t.most_of;
          rest = n.list;
          chain = n.chain;
          lower = n.lower;
          rising = n.rising;
          ahead = λ z m l. inl (n.all z (hung z m) l);
        }

    ends : (weight + uncut ≤ B) ⊎ ((z : ℕ) → Memᴰ z (hanging link x) → entry carried z ≤ floor) → Trimmed x weight B floor carried was link uncut
    ends e =
        record {
          cuts =
              record {
                same = trim-enough (entry carried) B weight (length (hanging link x)) t.fuel (below-rising link x x) (le_refl (length (hanging link x))) t.enough ∙ t.same;
                together = t.together;
                moved = t.moved;
              };
          ended = e;
        }

    -- what is left fits: the loop ends
    pub turn-done : weight + uncut ≤ B → Trimmed x weight B floor carried was link uncut
    turn-done l = ends (inl l)

    -- the scan is over: it stopped at one that carries `most`, or saw the whole list
    module _ {h f child : ℕ} (s : Scanning next carried link x floor first most start h f child)
        (over : (child ≡ absent) ⊎ (most ≤ f)) (seen : (most ≤ f) ⊎ ((f < most) × (start ≡ first))) where
      -- nothing was found: the loop ends
      pub turn-none : f ≡ floor → Trimmed x weight B floor carried was link uncut
      turn-none e = ends (inr (λ z m. go z m over seen))
        where
          go : (z : ℕ) → Memᴰ z (hanging link x) → (child ≡ absent) ⊎ (most ≤ f) → (most ≤ f) ⊎ ((f < most) × (start ≡ first)) → entry carried z ≤ floor
          go z m o (inl g) = omega (arith, e, t.most_of z m)
          go z m (inr o) (inr g) = absurd (omega arith)
          go z m (inl o) (inr g) = scan-none s.scan low o g.1 e z m

      -- else it has the heaviest
      pub turn-found : f ≢ floor → Found carried link x floor h f
      turn-found d = go over seen
        where
          found_of : Heaviest (entry carried) (hanging link x) h × (entry carried h ≡ f) → Found carried link x floor h f
          found_of b = record { heaviest = b.0; carries = b.1; over = omega (arith, s.least, d) }

          limit : f ≤ most
          limit =
              ⊎_elim (λ z. absurd (d z)) (λ (i : Memᴰ h (hanging link x) × (entry carried h ≡ f)). omega (arith, t.most_of h i.0)) s.scan.some

          go : (child ≡ absent) ⊎ (most ≤ f) → (most ≤ f) ⊎ ((f < most) × (start ≡ first)) → Found carried link x floor h f
          go o (inl g) = found_of (scan-stop s.scan low (omega (arith, limit)) d t.most_of)
          go (inr o) (inr g) = absurd (omega arith)
          go (inl o) (inr g) = found_of (scan-end s.scan low o g.1 d)

    -- the heaviest is cut: it hangs on itself
    module _ {h f at : ℕ} (b : Found carried link x floor h f) (l : B < weight + uncut) (a : at ≡ h) where
      lower : (h < x) × (h < length link)
      lower = let i = below_in link x x b.heaviest.inside in (i.0, omega (arith, t.size, k.inside, i))

      set-hanging : hanging (set link h h) x ≡ without h (hanging link x)
      set-hanging =
          rising-ext (below-rising (set link h h) x x) (rising-without h (below-rising link x x))
          (λ z m.
          let i = below_in (set link h h) x x m in
          let d : z ≢ h =
          λ (q : z ≡ h). omega (arith, i.1, lower, get_or-set_same link h h absent lower.1, ap (λ (v : ℕ). get_or (set link h h) v absent) q) in
          in_without h (in-below link x x i.0 (sym (get_or-set_other link h z h absent d) ∙ i.1)) d)
          (λ z m.
          let w = without_in h (hanging link x) m in
          let i = below_in link x x w.0 in
          in-below (set link h h) x x i.0 (get_or-set_other link h z h absent w.1 ∙ i.1))

      above : B < carries (entry carried) weight (hanging link x)
      unfolding carries
      above = omega (arith, l, t.together)

      pub cut-least : f ≤ uncut
      cut-least = omega (arith, b.carries, t.together, sum-entry-in (entry carried) b.heaviest.inside)

      cut-shorter : length (hanging (set link h h) x) < length (hanging link x)
      cut-shorter = rw set-hanging (without-shorter h b.heaviest.inside)

      pub turn-less : turns_left (set link at h) x first (get_or next at 0) < turns_left link x first start
      unfolding turns_left
      turn-less = rw a (omega (arith, cut-shorter, one_more (eqb (get_or next h 0) first)))

      heavy : floor < entry carried h
      heavy = omega (arith, b.carries, b.over)

      after : After next n.list h
      after = chain-after n.chain n.rising (n.all h (hung h b.heaviest.inside) heavy)

      cut_at : Turn x weight B floor first next carried was (set link h h) (uncut - f) f (get_or next h 0)
      cut_at =
          record {
            size = length-set link h h ∙ t.size;
            fuel = t.fuel - 1;
            enough = omega (arith, cut-shorter, t.enough);
            same =
                ap (trim (t.fuel - 1) (entry carried) B weight) set-hanging
                ∙ sym (trim-cut (entry carried) B weight (t.fuel - 1) (below-rising link x x) b.heaviest above)
                ∙ ap (λ (v : ℕ). trim v (entry carried) B weight (hanging link x)) one
                ∙ t.same;
            together = rw set-hanging (omega (arith, b.carries, t.together, sum-without (entry carried) h (below-rising link x x) b.heaviest.inside));
            small = omega (arith, t.small);
            moved =
                record {
                  each =
                      λ y.
                      by_cases (ℕ_discrete y h)
                      (λ (q : y ≡ h).
                      inr (
                        subst (λ (v : ℕ). Memᴰ v (hanging was x)) (sym q) (hung h b.heaviest.inside),
                        rw q heavy,
                        ap (λ (v : ℕ). get_or (set link h h) v 0) q ∙ get_or-set_same link h h 0 lower.1 ∙ sym q,
                      ))
                      (λ (d : y ≢ h). rw (get_or-set_other link h y h 0 d) (t.moved.each y));
                };
            most_of =
                λ z m.
                let w = without_in h (hanging link x) (rw set-hanging at m) in
                omega (arith, b.carries, ltb-false (entry carried h) (entry carried z) (b.heaviest.unbeaten z w.0));
            rest = after.tail;
            chain = after.chain;
            lower = λ z m. n.lower z (after.within z m);
            rising = rising_down (omega arith) after.rising;
            ahead =
                λ z m g.
                let w = without_in h (hanging link x) (rw set-hanging at m) in
                ⊎_elim
                (λ q. inr (omega (arith, b.carries, ltb-true (entry carried z) (entry carried h) q)))
                (λ (q : h ≤ z). inl (after.higher z (n.all z (hung z w.0) g) (omega (arith, w.1))))
                (b.heaviest.first z w.0);
          }
        where
          one : suc (t.fuel - 1) ≡ t.fuel
          one = omega (arith, cut-shorter, t.enough)

      pub turn-cut : Turn x weight B floor first next carried was (set link at h) (uncut - f) f (get_or next at 0)
      turn-cut = rw a cut_at

-- a turn of the scan, at the child `at`, which counts for `here`: what it carries if it still hangs on x, else 0
module _ {x floor first most start h f child : ℕ} {next carried link : List ℕ}
    (k : Scanning next carried link x floor first most start h f child) (inside : x < length link) (few : length link ≤ max_vertices)
    (d : child ≢ absent) {at : ℕ} (a : at ≡ child) where
  low-absent : x ≤ absent
  low-absent = omega (arith, inside, few)

  pub at-inside : at < length link
  at-inside = omega (arith, a, inside, scan-inside k.scan low-absent d)

  pub at_up : child < get_or next at 0
  at_up = rw a (scan-up k.scan low-absent d)

  module _ {here : ℕ} (w : here ≡ cond (eqb (get_or link at 0) x) (get_or carried at 0) 0) where
    -- it hangs on x, and counts for what it carries
    counts : eqb (get_or link child 0) x ≡ true → here ≡ get_or carried child 0
    counts e = w ∙ rw (a, e) refl

    hangs : get_or link child 0 ≡ x → Memᴰ child (hanging link x)
    hangs e = in-below link x x (scan-inside k.scan low-absent d) (get_d_default link child absent 0 (omega (arith, a, at-inside)) ∙ e)

    pub scan-taken : f < here → {h' f' : ℕ} → h' ≡ child → f' ≡ here → Scanning next carried link x floor first most start h' f' (get_or next at 0)
    scan-taken l p q =
        record {
          scan =
              test-cases (eqb (get_or link child 0) x)
              (λ e. rw (p, q, a, counts e) (scan-take k.scan low-absent d (hangs (eqb-true (get_or link child 0) x e)) (omega (arith, counts e))))
              (λ e. let z : here ≡ 0 = w ∙ rw (a, e) refl in absurd (omega arith));
          least = omega (arith, k.least);
        }

    pub scan-passed : here ≤ f → {h' f' : ℕ} → h' ≡ h → f' ≡ f → Scanning next carried link x floor first most start h' f' (get_or next at 0)
    scan-passed l p q =
        record {
          scan =
              rw (p, q, a)
              (scan-pass k.scan low-absent d
              (λ m.
              let i = below_in link x x m in
              omega (arith, l, counts (eq-eqb (get_or link child 0) x (get_d_default link child 0 absent (omega (arith, a, at-inside)) ∙ i.1)))));
          least = omega (arith, k.least);
        }
