-- The loop that lays out the slots: its tables, and its turn at a root and at another vertex.
-- Assumes nothing.
use mathlib.Core.Path.{◌≡◌, sym, ap, ◌∙◌}
use mathlib.Core.Logic.{◌≢◌, inl, inr, ⊎_elim}
use mathlib.Core.List.{List}
use Prim.Native.Nat.{ℕ, ◌+◌, ◌-◌, ◌≤◌, ◌<◌}
use native.Mathlib.Nat.{le_trans}
use native.Mathlib.Omega.{arith}
use lib.ListN.{length, get_or, set, length-set, get_or-eq_default}
use lib.Seq.{get_or-set_same, get_or-set_other}
use Rattle.game.specs.Game.{absent}
use Rattle.game.proofs.Sound.{sound-parent, get_d_default}
use Rattle.reach_slots.specs.Balance.{entry_of, child_sum, Subtrees}
use Rattle.reach_slots.specs.Layout.{Own, Layout}
use Rattle.game.proofs.Subtree.{climbs-inside}
use Rattle.reach_slots.proofs.Stretches.{Place, Host, Placed, placed_first, placed-fits, placed-step}

-- the same of tables: what each vertex has left ends at `stops`, its stretch at `ends`, and what the roots have left at `top`
pub record Stage (p w size ends stops : List ℕ) (m i top : ℕ) : Type 0 where
  pub subtrees : Subtrees p w (entry_of size) m
  pub placed : Placed p w (entry_of size) m i (λ x. get_or ends x 0 - get_or size x 0) (λ x. get_or stops x top) (entry_of ends)

-- the plain facts beside it: below i the subtree counts are not yet overwritten
pub record PlaceTables (p size ends stops : List ℕ) (i : ℕ) : Type 0 where
  pub below : i ≤ length p
  pub ends_entries : length ends ≡ length p
  pub stops_entries : length stops ≡ length p
  pub sizes : (c : ℕ) → c < i → get_or ends c 0 ≡ get_or size c 0

-- at first
pub stage-first : {p w size stops : List ℕ} {m : ℕ} → length stops ≡ length p → Subtrees p w (entry_of size) m → Stage p w size size stops m (length p) m
stage-first {size = size} {stops = stops} {m = m} e st =
    record { subtrees = st; placed = placed_first st (omega arith) (get_or-eq_default stops m (rw e st.short)) }

-- at last the slots are laid out, and what each vertex has left are its own
module _ {p w size ends stops : List ℕ} {m top' : ℕ} (t : PlaceTables p size ends stops 0) (stage : Stage p w size ends stops m 0 top') where
  d : Placed p w (entry_of size) m 0 (λ x. get_or ends x 0 - get_or size x 0) (λ x. get_or stops x top') (entry_of ends)
  d = stage.placed

  free-read : {x : ℕ} → x < length p → get_or stops x top' ≡ get_or stops x 0
  free-read {x} h = get_d_default stops x top' 0 (rw t.stops_entries h)

  own_room : {x : ℕ} → x < length p → get_or ends x 0 - get_or size x 0 + get_or w x 0 ≡ get_or stops x 0
  unfolding child_sum
  own_room {x} h = omega (arith, d.room x (inr h) (omega arith), free-read h)

  own-host : {x k : ℕ} → Own w stops x k → Host p 0 (λ x. get_or ends x 0 - get_or size x 0) (λ x. get_or stops x top') x k
  own-host {x} {k} o =
      let h : x < length p = rw t.stops_entries at o.inside in
      record {
        place = inr h;
        placed = omega arith;
        lower = let e = own_room h in let f = o.from in omega arith;
        upper = rw (free-read h) o.to;
      }

  -- what the loop has to leave
  pub stage-last : Layout p w stops ends m
  unfolding child_sum
  stage-last =
      record {
        sound = stage.subtrees.sound;
        short = stage.subtrees.short;
        entries = t.stops_entries;
        ends_entries = t.ends_entries;
        room = λ x h. (omega (arith, own_room h), rw (← (free-read h)) (d.bound x (inr h) (omega arith)));
        owner = λ k l. found k l (d.owner k l);
        stretch = λ x u j k z ox ou l c.
            let h : z < length p = climbs-inside stage.subtrees.sound c (rw t.stops_entries at ox.inside) in
            let s = d.inner x j z (own-host ox) (omega arith) h c in (
              λ b. (d.inner u k z (own-host ou) (omega arith) h b).upper,
              λ b. d.outer u k z (own-host ou) (omega arith) h (record { lower = le_trans s.lower l; upper = b }),
            );
      }
    where
      found : (k : ℕ) → k < m → (x : ℕ) × Host p 0 (λ x. get_or ends x 0 - get_or size x 0) (λ x. get_or stops x top') x k → (x : ℕ) × Own w stops x k
      found k l (x, g) =
          let lower = g.lower in
          let upper = g.upper in
          ⊎_elim
          (λ (a : x ≡ absent).
          let n = stage.subtrees.short in
          let none : get_or w x 0 ≡ 0 = get_or-eq_default w 0 (rw (a, stage.subtrees.counts) n) in
          let past : get_or ends x 0 ≡ 0 = get_or-eq_default ends 0 (rw (a, t.ends_entries) n) in
          absurd (omega (arith, d.room x (inl a) (omega arith))))
          (λ (h : x < length p).
          (x, record { inside = rw t.stops_entries h; from = omega (arith, own_room h); to = rw (← (free-read h)) upper }))
          g.place

-- the turn of the loop at the vertex x − 1, with its parent and its subtree's count as they are read
module _ {p size ends stops : List ℕ} {x : ℕ} (h : 0 < x) (t : PlaceTables p size ends stops x) where
  inside : x - 1 < length p
  inside = let b : x ≤ length p = t.below in omega arith

  weight-read : get_or ends (x - 1) 0 ≡ get_or size (x - 1) 0
  weight-read = t.sizes (x - 1) (omega arith)

  parent-read : get_or p (x - 1) 0 ≡ get_or p (x - 1) absent
  parent-read = get_d_default p (x - 1) 0 absent inside

  -- a store at x − 1 leaves what is below
  pub tables-next : {stops' : List ℕ} → length stops' ≡ length stops → (v : ℕ) → PlaceTables p size (set ends (x - 1) v) stops' (x - 1)
  tables-next e v =
      record {
        below = let b = inside in omega arith;
        ends_entries = simp length-set t.ends_entries;
        stops_entries = e ∙ t.stops_entries;
        sizes = λ c l. get_or-set_other ends (x - 1) c v 0 (λ f. omega arith) ∙ t.sizes c (omega arith);
      }

  module _ {w : List ℕ} {m top₀ : ℕ} (stage : Stage p w size ends stops m x top₀) where
    placed : Placed p w (entry_of size) m (x - 1 + 1) (λ x. get_or ends x 0 - get_or size x 0) (λ x. get_or stops x top₀) (entry_of ends)
    placed = let e : x - 1 + 1 ≡ x = omega arith in rw e stage.placed

    -- a vertex takes its stretch up to `end`
    module _ (end : ℕ) (free : get_or stops (get_or p (x - 1) absent) top₀ ≡ end) where
      stage-fits : get_or ends (x - 1) 0 ≤ end
      stage-fits = omega (arith, placed-fits stage.subtrees inside placed, weight-read)

      stage-step : {stops' : List ℕ} {top' : ℕ} → get_or stops' (x - 1) top' ≡ end → get_or stops' (get_or p (x - 1) absent) top' + get_or ends (x - 1) 0 ≡ end
          → ((z : ℕ) → Place p z → z ≢ x - 1 → z ≢ get_or p (x - 1) absent → get_or stops' z top' ≡ get_or stops z top₀)
          → Stage p w size (set ends (x - 1) end) stops' m (x - 1) top'
      stage-step own parent frees =
          let fits = stage-fits in
          let last : x - 1 < length ends = rw t.ends_entries inside in
          let same : get_or (set ends (x - 1) end) (x - 1) 0 ≡ end = get_or-set_same ends (x - 1) end 0 last in
          record {
            subtrees = stage.subtrees;
            placed =
                placed-step stage.subtrees inside placed
                (record {
                  begin = omega (arith, weight-read);
                  own = own ∙ sym free;
                  last = same ∙ sym free;
                  parent = omega (arith, weight-read);
                  frees = frees;
                  starts = λ z n. ap (λ a. a - get_or size z 0) (get_or-set_other ends (x - 1) z end 0 n);
                  ends = λ z n. get_or-set_other ends (x - 1) z end 0 n;
                });
          }

    -- a root takes it from the back of all that is left
    module _ (a : get_or p (x - 1) 0 ≡ absent) where
      root : get_or p (x - 1) absent ≡ absent
      root = sym parent-read ∙ a

      top_read : get_or stops (get_or p (x - 1) absent) top₀ ≡ top₀
      top_read = rw root (get_or-eq_default stops top₀ (rw t.stops_entries stage.subtrees.short))

      -- its stretch fits
      pub root-fits : get_or ends (x - 1) 0 ≤ top₀
      root-fits = stage-fits top₀ top_read

      -- and it has it
      pub stage-root : Stage p w size (set ends (x - 1) top₀) (set stops (x - 1) top₀) m (x - 1) (top₀ - get_or ends (x - 1) 0)
      stage-root =
          let first : x - 1 < length stops = rw t.stops_entries inside in
          let left : ℕ = top₀ - get_or ends (x - 1) 0 in
          let past : get_or (set stops (x - 1) top₀) (get_or p (x - 1) absent) left ≡ left =
          rw root (get_or-eq_default (set stops (x - 1) top₀) left (simp length-set (rw t.stops_entries stage.subtrees.short))) in
          stage-step top₀ top_read
          (get_or-set_same stops (x - 1) top₀ left first)
          (let f = root-fits in omega arith)
          (λ z pl n f. ⊎_elim (λ e. absurd (f (e ∙ sym root))) (λ b. get_or-set_other stops (x - 1) z top₀ left n ∙ get_d_default stops z left top₀ (rw t.stops_entries b)) pl)

    -- another vertex takes it from the back of what its parent has left
    module _ (a : get_or p (x - 1) 0 ≢ absent) where
      higher : (x - 1 < get_or p (x - 1) 0) × (get_or p (x - 1) 0 < length p)
      higher = rw parent-read (sound-parent stage.subtrees.sound (x - 1) inside (λ b. a (parent-read ∙ b)))

      -- the parent is in the table
      pub child-inside : get_or p (x - 1) 0 < length stops
      child-inside = rw t.stops_entries higher.1

      module _ {end : ℕ} (e : end ≡ get_or stops (get_or p (x - 1) 0) 0) where
        end_read : get_or stops (get_or p (x - 1) absent) top₀ ≡ end
        end_read = rw (← parent-read) (get_d_default stops (get_or p (x - 1) 0) top₀ 0 child-inside) ∙ sym e

        -- its stretch fits
        pub child_fits : get_or ends (x - 1) 0 ≤ end
        child_fits = stage-fits end end_read

        -- and it has it
        pub stage-child : {stops' : List ℕ} → stops' ≡ set (set stops (x - 1) end) (get_or p (x - 1) 0) (end - get_or ends (x - 1) 0)
            → Stage p w size (set ends (x - 1) end) stops' m (x - 1) top₀
        stage-child new =
            let q : ℕ = get_or p (x - 1) 0 in
            let above : x - 1 < q = higher.0 in
            let first : x - 1 < length stops = rw t.stops_entries inside in
            let second : q < length (set stops (x - 1) end) = simp length-set child-inside in
            let left : ℕ = end - get_or ends (x - 1) 0 in
            let parent : get_or (set (set stops (x - 1) end) q left) (get_or p (x - 1) absent) top₀ ≡ left =
            rw (← parent-read) (get_or-set_same (set stops (x - 1) end) q left top₀ second) in
            rw new
            (stage-step end end_read
            (get_or-set_other (set stops (x - 1) end) q (x - 1) left top₀ (λ f. omega arith) ∙ get_or-set_same stops (x - 1) end top₀ first)
            (let f = child_fits in omega arith)
            (λ z pl n f. get_or-set_other (set stops (x - 1) end) q z left top₀ (λ b. f (b ∙ parent-read)) ∙ get_or-set_other stops (x - 1) z end top₀ n))
