-- Going up the ranks: at each, its children are trimmed, and what it then carries is handed to its parent.
-- Assumes nothing.
use mathlib.Core.Path.{◌≡◌, refl, sym, ap, ◌∙◌}
use mathlib.Core.Logic.{◌≢◌, ⊎_elim, by_cases}
use mathlib.Core.Bool.{Bool, true, false, not, ◌&&◌, true≢false}
use mathlib.Core.List.{List, [], ◌∷◌, Memᴰ}
use Prim.Native.Nat.{ℕ, zero, suc, ◌+◌, ◌≤◌, ◌<◌}
use native.Mathlib.Nat.{le_refl, add_comm}
use native.Mathlib.Numerals.{add-one}
use native.Mathlib.Decide.{ℕ_discrete, dec_lt}
use native.Mathlib.Omega.{arith}
use lib.Dec.{eqb, ltb}
use lib.ListN.{length, get_or, drop, set, replicate, length-set, length-replicate, get_or-replicate}
use lib.Seq.{get_or-set_same, get_or-set_other, ext_get_or, drop-set-lt}
use borrow.Author.Tests.{eqb-true, eq-eqb, ne_eqb, lt-ltb, le-ltb}
use Rattle.game.specs.Table.{sum, member, filtered}
use Rattle.game.specs.Game.{absent}
use Rattle.game.proofs.Sound.{Sound, sound-true, get_d_default}
use Rattle.game.proofs.Tables.{member-in, in-member, sum_drop, sum_zeros, sum-drop-set, sum-drop-entry}
use Rattle.game.proofs.Bools.{test-cases}
use Rattle.game.proofs.Lists.{filtered-in, in-filtered, filtered-take, filtered-leave, rising-ext}
use Rattle.refusal.specs.Limits.{max_total}
use Rattle.cut.specs.Cut.{children_below, children, carries, trim, kept, carried, cut}
use Rattle.cut.specs.Steps.{Divisible, Chain, end, node, Falling, none, less, hanging, Loaded, Children, Lightened, holder, Cuts}
use Rattle.cut.proofs.Lists.{stretch, sum-agree, sum-within}
use Rattle.cut.proofs.Trimming.{carries-agree, trim-agree}
use Rattle.cut.proofs.Carried.{entry, below_in, in-below, below-rising, children-in, in-children, children-rising, child-lower, kept_in, kept_step, cut-child, carried-size, carried-fits}
use Rattle.cut.proofs.Chains.{chain-agree, chain-set}
use Rattle.cut.proofs.Turns.{released-hung}
use Rattle.groups.proofs.Sums.{only, total, total-filtered, total-grown}

-- the ranks below m, the highest first
down : ℕ → List ℕ
down zero = []
down (suc m) = m ∷ down m

down-in : (m : ℕ) {z : ℕ} → Memᴰ z (down m) → z < m
unfolding down
down-in zero i = absurd (mathlib.Core.List.Memᴰ.not-nil i)
down-in (suc m) {z} i = ⊎_elim (λ (e : z ≡ m). omega arith) (λ k. omega (arith, down-in m k)) (mathlib.Core.List.Memᴰ.cases_cons i)

in-down : (m : ℕ) {z : ℕ} → z < m → Memᴰ z (down m)
unfolding down
in-down zero l = absurd (omega arith)
in-down (suc m) {z} l = by_cases (ℕ_discrete z m) (λ e. mathlib.Core.List.Memᴰ.head e) (λ (d : z ≢ m). mathlib.Core.List.Memᴰ.tail (in-down m (omega arith)))

-- the children of y below m, the highest first
pub fallen : List ℕ → ℕ → ℕ → List ℕ
fallen p m y = filtered (λ (z : ℕ). eqb (get_or p z absent) y) (down m)

module _ (p : List ℕ) (y : ℕ) where
  fallen-more : (m : ℕ) → get_or p m absent ≡ y → fallen p (suc m) y ≡ m ∷ fallen p m y
  unfolding fallen down
  fallen-more m e = filtered-take (λ (z : ℕ). eqb (get_or p z absent) y) (down m) (eq-eqb (get_or p m absent) y e)

  fallen-none : (m : ℕ) → get_or p m absent ≢ y → fallen p (suc m) y ≡ fallen p m y
  unfolding fallen down
  fallen-none m d = filtered-leave (λ (z : ℕ). eqb (get_or p z absent) y) (down m) (ne_eqb (get_or p m absent) y d)

  fallen-in : (m : ℕ) {z : ℕ} → Memᴰ z (fallen p m y) → (z < m) × (get_or p z absent ≡ y)
  unfolding fallen
  fallen-in m {z} i =
      let s = filtered-in (λ (z : ℕ). eqb (get_or p z absent) y) (down m) i in
      (down-in m s.0, eqb-true (get_or p z absent) y s.1)

  in-fallen : (m : ℕ) {z : ℕ} → z < m → get_or p z absent ≡ y → Memᴰ z (fallen p m y)
  unfolding fallen
  in-fallen m {z} l e = in-filtered (λ (z : ℕ). eqb (get_or p z absent) y) (in-down m l) (eq-eqb (get_or p z absent) y e)

  fallen-falling : (m a : ℕ) → m ≤ a → Falling a (fallen p m y)
  unfolding fallen down filtered
  fallen-falling zero a l = none
  fallen-falling (suc m) a l =
      by_cases (ℕ_discrete (get_or p m absent) y)
      (λ e. rw (fallen-more m e) (less l (fallen-falling m m (le_refl m))))
      (λ d. rw (fallen-none m d) (fallen-falling m a (omega arith)))

  -- they come to the same in either direction
  fallen-total : (f : ℕ → ℕ) (m : ℕ) → total (fallen p m y) f ≡ total (children_below p m y) f
  unfolding fallen children_below sum down
  fallen-total f m =
      total-filtered t f (down m)
      ∙ total-grown (λ m. total (down m) (λ z. only (t z) (f z))) (λ z. only (t z) (f z)) refl (λ m. add_comm (only (t m) (f m)) (total (down m) (λ z. only (t z) (f z)))) m
      ∙ sym (total-filtered t f (stretch 0 m))
    where
      t : ℕ → Bool
      t z = eqb (get_or p z absent) y

-- the cuts that are made once the ranks below x are treated
pub cuts_below : List ℕ → List ℕ → ℕ → ℕ → ℕ → Bool
cuts_below p w B x y = ltb (get_or p y absent) x && cut p w B y

-- Where the loop stands at rank x. A rank from x on holds what its children below x carry together, and the last of them.
pub record Cutting (p w : List ℕ) (B : ℕ) (next : List ℕ) (x : ℕ) (now link : List ℕ) : Type 0 where
  pub inside : x ≤ length p
  pub told : length now ≡ length p
  pub linked : length link ≡ length p
  pub tails : length next ≡ length p
  pub done : (y : ℕ) → y < x → get_or now y 0 ≡ entry (carried p w B) y
  pub coming : (y : ℕ) → x ≤ y → y < length p → get_or now y 0 ≡ total (fallen p x y) (entry (carried p w B))
  pub hung : (y : ℕ) → y < x → get_or link y 0 ≡ holder p (cuts_below p w B x) y
  pub heads : (y : ℕ) → x ≤ y → y < length p → Chain next (get_or link y 0) (fallen p x y)
  pub small : sum (drop x w) + sum (drop x now) ≤ max_total

-- what x hangs on
module _ (p : List ℕ) (cuts : ℕ → Bool) (x : ℕ) where
  pub holder-up : get_or p x absent < length p → cuts x ≡ false → holder p cuts x ≡ get_or p x absent
  unfolding holder
  holder-up h e = rw (lt-ltb (get_or p x absent) (length p) h, e)

  pub holder-cut : cuts x ≡ true → holder p cuts x ≡ x
  unfolding holder
  holder-cut e = test-cases (ltb (get_or p x absent) (length p)) (λ h. rw (h, e)) (λ h. rw h)

  pub holder-root : (get_or p x absent < length p → ⊥) → holder p cuts x ≡ x
  unfolding holder
  holder-root h = rw (le-ltb (get_or p x absent) (length p) (omega arith))

holder-same : (p : List ℕ) (f g : ℕ → Bool) (x : ℕ) → (get_or p x absent < length p → f x ≡ g x) → holder p f x ≡ holder p g x
holder-same p f g x e =
    by_cases (dec_lt (get_or p x absent) (length p))
    (λ h. test-cases (f x) (λ a. holder-cut p f x a ∙ sym (holder-cut p g x (sym (e h) ∙ a))) (λ a. holder-up p f x h a ∙ sym (holder-up p g x h (sym (e h) ∙ a))))
    (λ h. holder-root p f x h ∙ sym (holder-root p g x h))

-- a rank whose parent is not treated yet is not cut yet, one whose parent is treated is cut if it is to be
module _ (p w : List ℕ) (B x y : ℕ) where
  cut_later : x ≤ get_or p y absent → cuts_below p w B x y ≡ false
  unfolding cuts_below
  cut_later h = rw (le-ltb (get_or p y absent) x h)

  cut-now : get_or p y absent < x → cuts_below p w B x y ≡ cut p w B y
  unfolding cuts_below
  cut-now h = rw (lt-ltb (get_or p y absent) x h)

module _ {p w : List ℕ} {B : ℕ} (d : Divisible p w B) where
  s : Sound p
  s = sound-true p d.known

  u : length p ≤ absent
  u = omega (arith, d.few)

  abbrev weight : ℕ → ℕ
  weight = entry (carried p w B)

  -- nothing is treated yet
  pub cutting-begin : {next now link : List ℕ} → now ≡ replicate (length p) 0 → link ≡ replicate (length p) absent → length next ≡ length p
      → Cutting p w B next 0 now link
  unfolding fallen down filtered sum
  cutting-begin {next} {now} {link} e f g =
      record {
        inside = omega arith;
        told = ap length e ∙ length-replicate (length p) 0;
        linked = ap length f ∙ length-replicate (length p) absent;
        tails = g;
        done = λ y h. absurd (omega arith);
        coming = λ y h l. rw e (get_or-replicate (length p) y 0 0 l);
        hung = λ y h. absurd (omega arith);
        heads = λ y h l. end {h = get_or link y 0} (rw f (get_or-replicate (length p) y absent 0 l));
        small = rw (e, sum_zeros) (omega (arith, d.small));
      }

  -- the treated ranks: the tables are as they have to be
  pub cutting-done : {next now link : List ℕ} {x : ℕ} → Cutting p w B next x now link → length p ≤ x → Cuts p w B now link
  cutting-done {next} {now} {link} {x} k h =
      record {
        table = ext_get_or 0 now (carried p w B) (k.told ∙ sym (carried-size p w B)) (λ y l. k.done y (omega (arith, k.told)));
        held = λ y l. k.hung y (omega arith) ∙ holder-same p (cuts_below p w B x) (cut p w B) y (λ g. cut-now p w B x y (omega arith));
      }

  -- at rank x
  module _ {next now link : List ℕ} {x : ℕ} (k : Cutting p w B next x now link) (l : x < length p) where
    read : (t : List ℕ) → length t ≡ length p → (y : ℕ) → y < length p → get_or t y absent ≡ get_or t y 0
    read t e y h = get_d_default t y absent 0 (omega (arith, e))

    -- what hangs on x yet are its children, all of them
    all-hang : hanging link x ≡ children p x
    all-hang =
        rising-ext (below-rising link x x) (children-rising p x)
        (λ z m. let i = below_in link x x m in in-children p x (omega arith) (parent z i.0 (sym (read link k.linked z (omega arith)) ∙ i.1)))
        (λ z m.
        let i = children-in p x m in
        let h : z < x = child-lower s u x l z m in
        in-below link x x h
        (read link k.linked z i.0 ∙ k.hung z h
        ∙ holder-up p (cuts_below p w B x) z (rw i.1 l) (cut_later p w B x z (omega (arith, i.1))) ∙ i.1))
      where
        parent : (z : ℕ) → z < x → get_or link z 0 ≡ x → get_or p z absent ≡ x
        parent z h e =
            by_cases (dec_lt (get_or p z absent) (length p))
            (λ g.
            test-cases (cuts_below p w B x z)
            (λ c. absurd (omega (arith, h, e, k.hung z h, holder-cut p (cuts_below p w B x) z c)))
            (λ c. sym (holder-up p (cuts_below p w B x) z g c) ∙ sym (k.hung z h) ∙ e))
            (λ g. absurd (omega (arith, h, e, k.hung z h, holder-root p (cuts_below p w B x) z g)))

    -- the children of x are all below x
    below-children : children_below p x x ≡ children p x
    below-children =
        rising-ext (below-rising p x x) (children-rising p x)
        (λ z m. let i = below_in p x x m in in-children p x (omega arith) i.1)
        (λ z m. in-below p x x (child-lower s u x l z m) (children-in p x m).1)

    known : (z : ℕ) → Memᴰ z (children p x) → entry now z ≡ weight z
    known z m = k.done z (child-lower s u x l z m)

    pub cutting-loaded : Loaded x (get_or w x 0) (get_or now x 0) B next now link
    cutting-loaded =
        record {
          inside = omega (arith, k.linked);
          few = omega (arith, k.linked, d.few);
          tails = k.tails ∙ sym k.linked;
          told = k.told ∙ sym k.linked;
          together =
              rw all-hang
              (k.coming x (le_refl x) l ∙ fallen-total p x weight x ∙ ap (λ (ys : List ℕ). total ys weight) below-children
              ∙ sym (sum-agree (entry now) weight (children p x) known));
          small = omega (arith, k.small, sum_drop w x (omega (arith, d.sized)), sum_drop now x (omega (arith, k.told)));
          alone = d.light x l;
          each = λ y h. rw (k.done y h) (carried-fits s u w B d.light y (omega arith));
        }

    pub cutting-children : Children x (get_or link x 0) next link
    cutting-children =
        record {
          listed =
              record {
                few = omega (arith, k.tails, d.few);
                list = fallen p x x;
                chain = k.heads x (le_refl x) l;
                falling = fallen-falling p x x (length next) (omega (arith, k.tails));
              };
          all = λ z m. let c = rw all-hang at m in in-fallen p x x (child-lower s u x l z c) (children-in p x c).1;
          only = λ z m. let i = fallen-in p x x m in rw all-hang (in-children p x (omega arith) i.1);
        }

    -- x is lightened, and carries r
    module _ {link' next' : List ℕ} {r : ℕ} (t : Lightened x (get_or w x 0) B now link link' next next' r) (same : length link' ≡ length link)
        (same_next : length next' ≡ length next) where
      kept-now : hanging link' x ≡ kept p w B weight x
      unfolding kept
      kept-now =
          t.kept
          ∙ ap (λ (ys : List ℕ). trim (length ys) (entry now) B (get_or w x 0) ys) all-hang
          ∙ trim-agree (entry now) weight B (get_or w x 0) (length (children p x)) (children-rising p x) known

      now-carries : r ≡ weight x
      now-carries =
          t.carries
          ∙ ap (carries (entry now) (get_or w x 0)) kept-now
          ∙ carries-agree (entry now) weight (get_or w x 0) (kept p w B weight x) (λ z m. known z (kept_in s u w B weight x m))
          ∙ sym (kept_step s u w B x l)

      -- what was handed on by others is left alone
      unmoved : (y : ℕ) → (Memᴰ y (children p x) → ⊥) → get_or link' y 0 ≡ get_or link y 0
      unmoved y f = ⊎_elim (λ e. e) (λ b. absurd (f (rw all-hang at b.0))) (t.moved.each y)

      -- each rank below x hangs where it has to
      hung-below : (y : ℕ) → y < x → get_or link' y 0 ≡ holder p (cuts_below p w B (x + 1)) y
      hung-below y h = by_cases (ℕ_discrete (get_or p y absent) x) mine other
        where
          other : get_or p y absent ≢ x → get_or link' y 0 ≡ holder p (cuts_below p w B (x + 1)) y
          other f =
              unmoved y (λ m. f (children-in p x m).1) ∙ k.hung y h
              ∙ holder-same p (cuts_below p w B x) (cuts_below p w B (x + 1)) y
              (λ g.
              by_cases (dec_lt (get_or p y absent) x)
              (λ a. cut-now p w B x y a ∙ sym (cut-now p w B (x + 1) y (omega arith)))
              (λ (a : get_or p y absent < x → ⊥). cut_later p w B x y (omega arith) ∙ sym (cut_later p w B (x + 1) y (omega arith))))

          mine : get_or p y absent ≡ x → get_or link' y 0 ≡ holder p (cuts_below p w B (x + 1)) y
          mine e = test-cases (member y (kept p w B weight x)) held loose
            where
              child : Memᴰ y (children p x)
              child = in-children p x (omega arith) e

              cutting : cuts_below p w B (x + 1) y ≡ not (member y (kept p w B weight x))
              cutting = cut-now p w B (x + 1) y (omega (arith, e)) ∙ cut-child s u w B x l child

              held : member y (kept p w B weight x) ≡ true → get_or link' y 0 ≡ holder p (cuts_below p w B (x + 1)) y
              held c =
                  let i = below_in link' x x (rw (← kept-now) at (member-in y (kept p w B weight x) c)) in
                  sym (read link' (same ∙ k.linked) y (omega arith)) ∙ i.1 ∙ sym e
                  ∙ sym (holder-up p (cuts_below p w B (x + 1)) y (rw e l) (cutting ∙ ap not c))

              loose : member y (kept p w B weight x) ≡ false → get_or link' y 0 ≡ holder p (cuts_below p w B (x + 1)) y
              loose c = ⊎_elim stays (λ b. b.2) (t.moved.each y) ∙ sym (holder-cut p (cuts_below p w B (x + 1)) y (cutting ∙ ap not c))
                where
                  stays : get_or link' y 0 ≡ get_or link y 0 → get_or link' y 0 ≡ y
                  stays q =
                      let i = below_in link x x (rw (← all-hang) at child) in
                      let m : Memᴰ y (hanging link' x) =
                      in-below link' x x h
                      (read link' (same ∙ k.linked) y (omega arith) ∙ q ∙ sym (read link k.linked y (omega arith)) ∙ i.1) in
                      absurd (true≢false (sym (in-member (rw kept-now at m)) ∙ c))

      -- it carries no more than it did before
      lighter : r ≤ get_or w x 0 + get_or now x 0
      unfolding carries
      lighter =
          omega (
            arith,
            t.carries,
            cutting-loaded.together,
            sum-within (entry now) (below-rising link' x x) (below-rising link x x)
                (released-hung t.moved same cutting-loaded.inside),
          )

      higher : (y : ℕ) → x < y → get_or link' y 0 ≡ get_or link y 0
      higher y h = unmoved y (λ m. omega (arith, child-lower s u x l y m))

      -- the list of a higher rank is as it was
      heads-still : (y : ℕ) → x < y → y < length p → Chain next' (get_or link' y 0) (fallen p x y)
      heads-still y h g =
          rw (higher y h)
          (chain-agree
          (λ z m. t.others z (λ i. let c = children-in p x (rw all-hang at i) in omega (arith, (fallen-in p y x m).1, c.1)))
          (k.heads y (omega arith) g))

      -- what came to y: from x no more, or from x too
      module _ (y : ℕ) where
        next_more : get_or p x absent ≡ y → fallen p (x + 1) y ≡ x ∷ fallen p x y
        next_more e = rw (add-one x) (fallen-more p y x e)

        next-none : get_or p x absent ≢ y → fallen p (x + 1) y ≡ fallen p x y
        next-none f = rw (add-one x) (fallen-none p y x f)

      -- the entries up to x, once x has its own
      done-with : (now' : List ℕ) → ((y : ℕ) → y < x → get_or now' y 0 ≡ get_or now y 0) → get_or now' x 0 ≡ r → (y : ℕ) → y < x + 1 → get_or now' y 0 ≡ weight y
      done-with now' f e y h =
          by_cases (ℕ_discrete y x)
          (λ (q : y ≡ x). rw q (e ∙ now-carries))
          (λ (q : y ≢ x). let g : y < x = omega arith in f y g ∙ k.done y g)

      module _ (v : ℕ) where
        link-size : length (set link' x v) ≡ length p
        link-size = length-set link' x v ∙ same ∙ k.linked

        hung-with : v ≡ holder p (cuts_below p w B (x + 1)) x → (y : ℕ) → y < x + 1 → get_or (set link' x v) y 0 ≡ holder p (cuts_below p w B (x + 1)) y
        hung-with e y h =
            by_cases (ℕ_discrete y x)
            (λ (q : y ≡ x). rw q (get_or-set_same link' x v 0 (omega (arith, same, k.linked)) ∙ e))
            (λ (q : y ≢ x). get_or-set_other link' x y v 0 q ∙ hung-below y (omega arith))

      parent-read : get_or p x absent ≡ get_or p x 0
      parent-read = read p refl x l

      rest-small : sum (drop (x + 1) w) + (sum (drop (x + 1) now) + r) ≤ max_total
      rest-small =
          omega (arith, k.small, lighter, sum_drop w x (omega (arith, d.sized)), sum_drop now x (omega (arith, k.told)))

      dropped : drop (x + 1) (set now x r) ≡ drop (x + 1) now
      dropped = drop-set-lt (x + 1) now x r (omega arith)

      -- x has no parent
      root-step : get_or p x 0 ≡ absent → Cutting p w B next' (x + 1) (set now x r) (set link' x x)
      root-step e =
          record {
            inside = omega arith;
            told = length-set now x r ∙ k.told;
            linked = link-size x;
            tails = same_next ∙ k.tails;
            done = done-with (set now x r) (λ y h. get_or-set_other now x y r 0 (λ (q : y ≡ x). omega arith)) (get_or-set_same now x r 0 (omega (arith, k.told)));
            coming =
                λ y h g.
                rw (get_or-set_other now x y r 0 (λ (q : y ≡ x). omega arith), next-none y (not-parent y g))
                (k.coming y (omega arith) g);
            hung = hung-with x (sym (holder-root p (cuts_below p w B (x + 1)) x (λ (h : get_or p x absent < length p). omega (arith, parent-read, e, u))));
            heads =
                λ y h g.
                rw (get_or-set_other link' x y x 0 (λ (q : y ≡ x). omega arith), next-none y (not-parent y g))
                (heads-still y (omega arith) g);
            small = rw dropped (omega (arith, rest-small));
          }
        where
          not-parent : (y : ℕ) → y < length p → get_or p x absent ≢ y
          not-parent y g q = omega (arith, q, parent-read, e, u)

      pub step-root : get_or p x 0 ≡ absent → {now' link'' next'' : List ℕ} → now' ≡ set now x r → link'' ≡ set link' x x → next'' ≡ next'
          → Cutting p w B next'' (x + 1) now' link''
      step-root e f g h = rw (f, g, h) (root-step e)

      -- its parent is a
      module _ {a : ℕ} (e : a ≡ get_or p x 0) (f : get_or p x 0 ≢ absent) where
        upward : (x < a) × (a < length p)
        upward =
            ⊎_elim (λ (q : get_or p x absent ≡ absent). absurd (f (sym parent-read ∙ q)))
            (λ (q : (x < get_or p x absent) × (get_or p x absent < length p)). (omega (arith, e, parent-read), omega (arith, e, parent-read)))
            (s.each x l)

        parent : get_or p x absent ≡ a
        parent = parent-read ∙ sym e

        before : get_or (set now x r) a 0 ≡ get_or now a 0
        before = get_or-set_other now x a r 0 (λ (q : a ≡ x). omega (arith, q, upward))

        told-before : length (set now x r) ≡ length p
        told-before = length-set now x r ∙ k.told

        pub hand-inside : a < length p
        hand-inside = upward.1

        pub hand-fits : get_or (set now x r) a 0 + r ≤ max_total
        hand-fits = omega (arith, before, rest-small, sum-drop-entry now (x + 1) a (omega (arith, upward)))

        new-now : List ℕ
        new-now = set (set now x r) a (get_or (set now x r) a 0 + r)

        new-link : List ℕ
        new-link = set (set link' a x) x (get_or p x 0)

        new-next : List ℕ
        new-next = set next' x (get_or link' a 0)

        -- the entries of link: x and its parent have new ones
        link_at : get_or new-link a 0 ≡ x
        unfolding new-link
        link_at =
            get_or-set_other (set link' a x) x a (get_or p x 0) 0 (λ (q : a ≡ x). omega (arith, q, upward))
            ∙ get_or-set_same link' a x 0 (omega (arith, upward, same, k.linked))

        link-own : get_or new-link x 0 ≡ get_or p x 0
        unfolding new-link
        link-own = get_or-set_same (set link' a x) x (get_or p x 0) 0 (omega (arith, length-set link' a x, same, k.linked))

        link-other : (y : ℕ) → y ≢ x → y ≢ a → get_or new-link y 0 ≡ get_or link' y 0
        unfolding new-link
        link-other y m n = get_or-set_other (set link' a x) x y (get_or p x 0) 0 m ∙ get_or-set_other link' a y x 0 n

        child-step : Cutting p w B new-next (x + 1) new-now new-link
        unfolding new-now new-link new-next sum
        child-step =
            record {
              inside = omega arith;
              told = length-set (set now x r) a (get_or (set now x r) a 0 + r) ∙ told-before;
              linked = link-new;
              tails = length-set next' x (get_or link' a 0) ∙ same_next ∙ k.tails;
              done =
                  done-with new-now
                  (λ y h. get_or-set_other (set now x r) a y (get_or (set now x r) a 0 + r) 0 (λ (q : y ≡ a). omega (arith, q, upward)) ∙ get_or-set_other now x y r 0 (λ (q : y ≡ x). omega arith))
                  (get_or-set_other (set now x r) a x (get_or (set now x r) a 0 + r) 0 (λ (q : x ≡ a). omega (arith, q, upward)) ∙ get_or-set_same now x r 0 (omega (arith, k.told)));
              coming = λ y h g. by_cases (ℕ_discrete y a) (λ (q : y ≡ a). rw q mine) (λ q. other y h g q);
              hung = λ y h. by_cases (ℕ_discrete y x) (λ (q : y ≡ x). rw q (link-own ∙ own)) (λ (q : y ≢ x). link-other y q (λ (c : y ≡ a). omega (arith, c, upward)) ∙ hung-below y (omega arith));
              heads = λ y h g. by_cases (ℕ_discrete y a) (λ (q : y ≡ a). rw q pushed) (λ q. still y h g q);
              small = omega (arith, rest-small, ap sum dropped, sum-drop-set (set now x r) (x + 1) a (get_or (set now x r) a 0 + r) (omega (arith, upward)) (omega (arith, upward, told-before)));
            }
          where
            link-new : length new-link ≡ length p
            link-new = length-set (set link' a x) x (get_or p x 0) ∙ length-set link' a x ∙ same ∙ k.linked

            own : get_or p x 0 ≡ holder p (cuts_below p w B (x + 1)) x
            own =
                sym parent-read
                ∙ sym (holder-up p (cuts_below p w B (x + 1)) x (omega (arith, upward, parent)) (cut_later p w B (x + 1) x (omega (arith, upward, parent))))

            mine : get_or new-now a 0 ≡ total (fallen p (x + 1) a) weight
            mine =
                rw (next_more a parent)
                (omega (
                  arith,
                  get_or-set_same (set now x r) a (get_or (set now x r) a 0 + r) 0 (omega (arith, upward, told-before)),
                  before,
                  now-carries,
                  k.coming a (omega (arith, upward)) upward.1,
                ))

            other : (y : ℕ) → x + 1 ≤ y → y < length p → y ≢ a → get_or new-now y 0 ≡ total (fallen p (x + 1) y) weight
            other y h g q =
                rw (next-none y (λ c. q (sym c ∙ parent)), get_or-set_other (set now x r) a y (get_or (set now x r) a 0 + r) 0 q, get_or-set_other now x y r 0 (λ (c : y ≡ x). omega arith))
                (k.coming y (omega arith) g)

            pushed : Chain new-next (get_or new-link a 0) (fallen p (x + 1) a)
            pushed =
                rw (link_at, next_more a parent)
                (node {y = x} {ys = fallen p x a} refl
                (rw (get_or-set_same next' x (get_or link' a 0) 0 (omega (arith, same_next, k.tails)))
                (chain-set x (get_or link' a 0) (λ z m (c : z ≡ x). omega (arith, c, fallen-in p a x m)) (heads-still a upward.0 upward.1))))

            still : (y : ℕ) → x + 1 ≤ y → y < length p → y ≢ a → Chain new-next (get_or new-link y 0) (fallen p (x + 1) y)
            still y h g q =
                rw (link-other y (λ (c : y ≡ x). omega arith) q, next-none y (λ c. q (sym c ∙ parent)))
                (chain-set x (get_or link' a 0) (λ z m (c : z ≡ x). omega (arith, c, fallen-in p y x m)) (heads-still y (omega arith) g))

        pub step-child : {now' link'' next'' : List ℕ} → now' ≡ set (set now x r) a (get_or (set now x r) a 0 + r)
            → link'' ≡ set (set link' a x) x (get_or p x 0) → next'' ≡ set next' x (get_or link' a 0) → Cutting p w B next'' (x + 1) now' link''
        unfolding new-now new-link new-next
        step-child g h i = rw (g, h, i) child-step
