-- What a net that is the net of its edges gives to each stage of the count.
-- Assumes nothing.
use mathlib.Core.Path.{◌≡◌, refl, sym, ap, subst, ◌∙◌}
use mathlib.Core.Logic.{by_cases, ⊎_elim}
use mathlib.Core.List.Memᴰ
use mathlib.Core.List.{List, [], ◌∷◌, Memᴰ}
use Prim.Native.Nat.{ℕ, ◌+◌, ◌≤◌, ◌<◌, min, max}
use lib.Dec.{eqb}
use native.Mathlib.Nat.{min_comm, add_left_comm, min-eq_left, min-eq_right, max-eq_left, max-eq_right}
use native.Mathlib.Decide.{dec_le}
use native.Mathlib.Omega.{arith}
use lib.ListN.{length, get_or, replicate, length-replicate, get_or-replicate}
use Rattle.game.specs.Edge.{Edge, ◌─◌, lower, upper}
use Rattle.game.specs.Game.{absent}
use Rattle.game.specs.Table.{tabulate, sum, one_if, count}
use Rattle.game.specs.Tree.{ancestors}
use Rattle.game.specs.Graph.{Linked, Proper, Same, nil, keep, flip, swap, trans}
use Rattle.game.proofs.Tables.{member-in, tabulate-length, tabulate-entry, tabulate-ext, tabulate-const, sum-tabulate-add, sum_zeros}
use Rattle.game.proofs.Proper.{proper-head, proper-tail, linked-ends, linked-tail, same, turned, edge-left, edge-right}
use Rattle.game.proofs.Sound.{Sound, sound-parent, get_d_default}
use Rattle.game.proofs.Links.{link-of}
use Rattle.game.proofs.Order.{same-proper, forest-order, same_length}
use Rattle.game.proofs.Climbs.{Climbs, top, up}
use Rattle.game.proofs.Forest.{forest-sound}
use Rattle.game.proofs.Ancestors.{ancestor-above, edge-ends}
use Rattle.game.proofs.Weights.{charged, charged-one, sum-charged}
use Rattle.game.specs.Net.{reach}
use Rattle.bucket.specs.Filed.{Consecutive, in_buckets, Filed}
use Rattle.bucket.proofs.Reading.{filed-consecutive}
use Rattle.bucket.proofs.Regrouped.{same-buckets}
use Rattle.reach_slots.specs.Balance.{Summable}
use Rattle.reach_slots.specs.Jumps.{Jumps}
use Rattle.reach_slots.specs.Layout.{Layout}
use Rattle.reach_slots.specs.InSlots.{upward, Fileable, InSlots, Marked}
use Rattle.reach_slots.specs.Visit.{Slotted, Empty}
use Rattle.reach_slots.specs.Given.{lower_count, lower_counts, Given}
use Rattle.game.proofs.Subtree.{climbs-rest}
use Rattle.reach_slots.proofs.SameEdges.{reach-order}

-- an edge of the list, written upward, joins its two ends
upward-linked : (es : List Edge) {x y : ℕ} → Memᴰ (x ─ y) (upward es) → Linked es x y × (x ≤ y)
unfolding upward lower upper
upward-linked [] m = absurd (Memᴰ.not-nil m)
upward-linked ((a ─ b) ∷ es) {x} {y} m =
    ⊎_elim
    (λ (e : (x ─ y) ≡ (min a b ─ max a b)). by_cases (dec_le a b)
    (λ (h : a ≤ b). let l = edge-left e ∙ min-eq_left h in let r = edge-right e ∙ max-eq_right h in (linked-ends es (same l r), rw (l, r) h))
    (λ (h : ¬ (a ≤ b)).
    let k : b ≤ a = omega arith in
    let l = edge-left e ∙ min-eq_right k in let r = edge-right e ∙ max-eq_left k in (linked-ends es (turned l r), rw (l, r) k)))
    (λ t. let (l, h) = upward-linked es t in (linked-tail (a ─ b) l, h))
    (Memᴰ.cases_cons m)

-- at first each pointer is the parent
jumps-parents : {p : List ℕ} → Sound p → (ends : List ℕ) → Jumps p ends p 0
jumps-parents {p} s ends =
    record {
      sound = s;
      entries = refl;
      each = λ x h d.
          let e : get_or p x 0 ≡ get_or p x absent = get_d_default p x 0 absent h in
          let above : x < get_or p x absent = (sound-parent s x h d).0 in
          rw e (record { higher = above; climb = up (link-of p h refl d) top; passed = λ z l c o. climbs-rest c (λ q. omega arith) });
    }

-- so the tables of the count are empty at first
pub empty-tables : {p ancestor previous overlaps : List ℕ} {a b : ℕ} (ends : List ℕ) → Sound p → ancestor ≡ p → previous ≡ replicate a absent → overlaps ≡ replicate b 0
    → a ≡ length p → b ≡ length p → Empty p ends ancestor previous overlaps
empty-tables {a = a} {b = b} ends s ea ep eo ha hb =
    record {
      jumps = rw ea (jumps-parents s ends);
      previous_entries = rw (ep, length-replicate) ha;
      overlaps_entries = rw (eo, length-replicate) hb;
      none = λ y h. rw (ep, get_or-replicate a y absent 0 (omega arith));
      zero = λ x h. rw (eo, get_or-replicate {A = ℕ} b x 0 0 (omega arith));
    }

-- each edge is counted once
counts-sum : {n : ℕ} {es : List Edge} → Proper n es → sum (lower_counts n es) ≡ length es
unfolding lower_counts lower_count count lower
counts-sum {n} {es = []} proper = ap sum (tabulate-const n (lower_count []) 0 (λ i h. refl)) ∙ sum_zeros n
counts-sum {n} {es = (a ─ b) ∷ es} proper =
    let (ha, hb, d) = proper-head proper in
    let one : sum (tabulate n (λ (x : ℕ). one_if (eqb (min a b) x))) ≡ 1 =
    ap sum (tabulate-ext n _ (charged 1 (min a b)) (λ x h. sym (charged-one (min a b) x))) ∙ sum-charged 1 n (min a b) (omega arith) in
    omega (arith, sum-tabulate-add n (λ (x : ℕ). one_if (eqb (min a b) x)) (lower_count es), one, counts-sum (proper-tail proper))

-- the same edges in another order are counted alike
lower-count-order : {es fs : List Edge} → Same es fs → (x : ℕ) → lower_count es x ≡ lower_count fs x
unfolding lower_count count lower
lower-count-order nil x = refl
lower-count-order (keep {e = e} s) x = ap (λ (k : ℕ). one_if (eqb (lower e) x) + k) (lower-count-order s x)
lower-count-order (flip {e = a ─ b} s) x = rw (lower-count-order s x, min_comm a b)
lower-count-order (swap {e = e} {f = f} {es = es}) x = add_left_comm (one_if (eqb (lower e) x)) (one_if (eqb (lower f) x)) (lower_count es x)
lower-count-order (trans s t) x = lower-count-order s x ∙ lower-count-order t x

-- so what is given of a list is given of the same edges in another order
pub given-order : {p w : List ℕ} {es fs : List Edge} → Same es fs → Given p w es → Given p w fs
unfolding lower_counts
given-order {p} {w} {es} {fs} s g =
    record {
      vertices = g.vertices;
      few = rw (← same_length s) g.few;
      proper = same-proper s g.proper;
      parents = g.parents ∙ forest-order (length p) s;
      counts = g.counts ∙ tabulate-ext (length p) (lower_count es) (lower_count fs) (λ i h. lower-count-order s i);
    }

module _ {p w : List ℕ} {es : List Edge} (g : Given p w es) where
  -- the parents are a sound table
  net-sound : Sound p
  net-sound = rw g.parents (forest-sound g.proper)

  short : length p ≤ absent
  short = let v = g.vertices in omega arith

  -- there is one charged for each edge
  pub net-total : sum w ≡ length es
  net-total = ap sum g.counts ∙ counts-sum g.proper

  counts-length : length (lower_counts (length p) es) ≡ length p
  unfolding lower_counts
  counts-length = tabulate-length (length p) (lower_count es)

  counts-entry : (x : ℕ) → x < length p → get_or (lower_counts (length p) es) x 0 ≡ lower_count es x
  unfolding lower_counts
  counts-entry x h = tabulate-entry (length p) (lower_count es) x 0 h

  -- the counts can be summed up
  pub net-summable : Summable p w
  net-summable =
      let few = g.few in
      record { sound = net-sound; short = g.vertices; entries = ap length g.counts ∙ counts-length; few = omega (arith, net-total) }

  -- slots that are laid out by them are for its edges
  pub net-fileable : {stops ends : List ℕ} {m : ℕ} → Layout p w stops ends m → m ≡ length es → Fileable p w stops ends es m
  net-fileable l e =
      record {
        layout = l;
        proper = g.proper;
        counts = λ x h. ap (λ z. get_or z x 0) g.counts ∙ counts-entry x h;
      }

  -- the edges go up the forest
  net-climb : (x y : ℕ) → Memᴰ (x ─ y) (upward es) → (x < y) × (y < length p) × Climbs p y x
  net-climb x y m =
      let (l, h) = upward-linked es m in
      let (hx, hy, d) = g.proper.each x y l in
      let less : x < y = omega arith in
      let a = ancestor-above short (member-in y (ancestors p x) (rw (sym g.parents) at (edge-ends short g.proper l less))) in
      (less, hy, up a.link a.rest)

  -- the edges stand in the slots
  pub net-slotted : {stops ends filed first slots : List ℕ} {m : ℕ} → Layout p w stops ends m → m ≡ length es → length slots ≡ m → length first ≡ length p
      → InSlots es w stops filed → Marked w stops filed first slots → Slotted p w es filed stops ends first slots
  net-slotted l e s f content marked =
      record {
        layout = rw s l;
        content = content;
        marked = marked;
        climb = net-climb;
        few = rw (s, e) g.few;
        entries = (net-summable.entries, f);
      }

-- edges that are filed by their upper end, taken bucket by bucket
module _ {p w bucket_ends lowers : List ℕ} {es : List Edge} (g : Given p w es) (f : Filed (length p) es bucket_ends lowers) where
  pub own-filed : Filed (length bucket_ends) es bucket_ends lowers
  own-filed = subst (λ (n : ℕ). Filed n es bucket_ends lowers) (sym f.sorted.long) f

  regrouped-same : Same es (in_buckets es 0 (length bucket_ends))
  regrouped-same = same-buckets (length bucket_ends) es own-filed.proper

  pub regrouped : Given p w (in_buckets es 0 (length bucket_ends))
  regrouped = given-order regrouped-same g

  pub in_row : Consecutive bucket_ends lowers
  in_row = filed-consecutive f g.vertices

  -- a slot for each, if there is one for each of another list that has the same counts
  pub slots-regrouped : {m : ℕ} {fs : List Edge} → Given p w fs → m ≡ length fs → m ≡ length (in_buckets es 0 (length bucket_ends))
  slots-regrouped h e = e ∙ sym (net-total h) ∙ net-total regrouped

  pub reach-regrouped : tabulate (length p) (reach p (in_buckets es 0 (length bucket_ends))) ≡ tabulate (length p) (reach p es)
  reach-regrouped = tabulate-ext (length p) (reach p (in_buckets es 0 (length bucket_ends))) (reach p es) (λ x h. sym (reach-order p regrouped-same x))
