-- Volume never exceeds bound, for any set of cuts and any packing that keeps groups whole.
--
-- Fix a vertex y with an edge to a lower vertex u. The edge lies in the block of the group of u. If that is not y's own group, the
-- group's top t is cut off below y, on the way from u up to y; so u is under t, y is above t, and y counts in the reach of t. Groups in
-- different blocks have different tops. So the block count of y, less one, is at most the number of cut vertices whose reach counts y;
-- the sums over y and over the cut vertices are exchanged. It uses that the ends of an edge stand one above the other, that an edge
-- belongs to the block of its lower end, and what a top is, and nothing else.
-- Assumes nothing.
use mathlib.Core.Path.{◌≡◌, refl, sym, ap, ◌∙◌}
use mathlib.Core.Logic.{◌≢◌, ◌⊎◌, inl, inr, ⊎_elim, by_cases}
use mathlib.Core.Bool.{Bool, true, false, not, ◌&&◌, cond}
use mathlib.Core.List.{List, Memᴰ}
use Prim.Native.Nat.{ℕ, ◌+◌, ◌-◌, ◌≤◌, ◌<◌}
use native.Mathlib.Nat.{le_trans, le_of_eq}
use native.Mathlib.Decide.{ℕ_discrete}
use native.Mathlib.Omega.{arith}
use lib.Dec.{eqb}
use lib.ListN.{length, get_or}
use borrow.Author.Tests.{eq-eqb, ne_eqb}
use Rattle.game.specs.Table.{tabulate, sum, member, count, some_entry}
use Rattle.game.specs.Edge.{Edge, lower}
use Rattle.game.specs.Game.{absent, forest}
use Rattle.game.specs.Tree.{ancestors, under}
use Rattle.game.specs.Net.{Net, enters, reach}
use Rattle.game.specs.Graph.{Linked, Proper}
use Rattle.game.proofs.Bools.{or_left, or_right, both-and, test-cases}
use Rattle.game.proofs.Tables.{member-in, in-member, tabulate-entry}
use Rattle.game.proofs.Sound.{Sound}
use Rattle.game.proofs.Links.{link-inv}
use Rattle.game.proofs.Forest.{forest-length, forest-sound}
use Rattle.game.proofs.Ancestors.{ancestor-above, edge-ends}
use Rattle.refusal.specs.Limits.{max_vertices}
use Rattle.cut.specs.Cut.{top}
use Rattle.cut.proofs.Lists.{stretch, stretch-in, in-stretch, sum-entry-in, sum-nought}
use Rattle.groups.proofs.Sums.{only, total, total-add, total-swap}
use Rattle.groups.proofs.Groups.{top-or, top-cut, top-of, top-between}
use Rattle.reach.proofs.Higher.{linked-enters}
use Rattle.block_count.specs.BlockCount.{blocks_at, different, block_count_of}
use Rattle.cost.specs.Figures.{is_cut, bound, volume, bound_of, volume_of}
use Rattle.block_count.proofs.Blocks.{block_at}
use Rattle.cost.proofs.Divided.{cuts, packed, divided-top, divided-block}
use Rattle.block_count.proofs.Sums.{table-total, count-total, total-le, total-one, members-count}

-- every vertex is under the top of its group
under_top : (p : List ℕ) (cuts : ℕ → Bool) (x : ℕ) → under p (top p cuts x) x ≡ true
unfolding under
under_top p cuts x =
    ⊎_elim
    (λ e. or_left (eqb x (top p cuts x)) (member (top p cuts x) (ancestors p x)) (eq-eqb x (top p cuts x) (sym e)))
    (λ m. or_right (eqb x (top p cuts x)) (member (top p cuts x) (ancestors p x)) (in-member m))
    (top-or p cuts x)

-- who has an ancestor has a parent
ancestor-parent : (p : List ℕ) → length p ≤ absent → (x : ℕ) {y : ℕ} → Memᴰ y (ancestors p x) → get_or p x absent ≢ absent
ancestor-parent p u x m = let l = link-inv p (ancestor-above u m).link in λ e. l.2 (sym l.1 ∙ e)

-- Tops and blocks as tables, for any set of cuts and any packing: a block is given to each top.
module _ {n : ℕ} {es : List Edge} (small : n ≤ absent) (proper : Proper n es) (cuts : ℕ → Bool) (packed : ℕ → ℕ) (k : ℕ) where
  parents : List ℕ
  parents = forest n es

  top_of : ℕ → ℕ
  top_of = top parents cuts

  tops : List ℕ
  tops = tabulate n top_of

  block : List ℕ
  block = tabulate n (λ x. packed (top_of x))

  ranks : List ℕ
  ranks = stretch 0 n

  sound : Sound parents
  unfolding parents
  sound = forest-sound proper

  known : length parents ≤ absent
  unfolding parents
  known = rw (forest-length n es) small

  -- t is cut and its reach counts y
  counts : ℕ → ℕ → Bool
  counts t y = is_cut parents tops t && (member y (ancestors parents t) && some_entry (enters parents t y) es)

  -- a lower neighbour of y whose group is not y's own has a top that is cut and counts y
  cut-counts : {u y : ℕ} → u < y → y < n → Linked es u y → (top_of u ≡ top_of y) ⊎ ((top_of u < n) × (counts (top_of u) y ≡ true))
  unfolding counts tops top_of parents is_cut
  cut-counts {u} {y} l h e = by_cases (ℕ_discrete (top_of u) (top_of y)) (λ q. inl q) (λ d. inr (inside, passes (top-between sound known cuts y u below above d)))
    where
      t : ℕ
      t = top_of u

      below : u < length parents
      below = omega (arith, forest-length n es)

      above : Memᴰ y (ancestors parents u)
      above = member-in y (ancestors parents u) (edge-ends small proper e l)

      inside : t < n
      inside = omega (arith, forest-length n es, (top-of sound known cuts u below).inside)

      passes : (cuts t ≡ true) × Memᴰ y (ancestors parents t) → counts t y ≡ true
      passes (c, m) =
          both-and (is_cut parents tops t) (member y (ancestors parents t) && some_entry (enters parents t y) es)
          (both-and (eqb (get_or tops t 0) t) (not (eqb (get_or parents t absent) absent))
          (eq-eqb (get_or tops t 0) t (tabulate-entry n top_of t 0 inside ∙ top-cut parents cuts t c))
          (ap not (ne_eqb (get_or parents t absent) absent (ancestor-parent parents known t m))))
          (both-and (member y (ancestors parents t)) (some_entry (enters parents t y) es) (in-member m)
          (linked-enters parents t e (under_top parents cuts u)))

  own : ℕ → ℕ
  own y = packed (top_of y)

  block-entry : (x : ℕ) → x < n → get_or block x 0 ≡ own x
  unfolding block own
  block-entry x h = tabulate-entry n (λ x. packed (top_of x)) x 0 h

  -- the cut vertices that count y, by the block that they go into
  into : ℕ → ℕ → ℕ → ℕ
  into y j t = only (counts t y) (only (eqb (packed t) j) 1)

  -- a block at y is y's own, or that of a cut vertex that counts y
  met : (y j : ℕ) → y < n → member j (blocks_at block es y) ≡ true → 1 ≤ only (eqb (own y) j) 1 + total ranks (into y j)
  unfolding ranks into own
  met y j h m = ⊎_elim self lower-one (block_at block es y (member-in j (blocks_at block es y) m))
    where
      self : (e : Edge) × Memᴰ e es × (lower e ≡ y) × (j ≡ get_or block y 0) → 1 ≤ only (eqb (own y) j) 1 + total ranks (into y j)
      self (d, i, l, e) = rw (eq-eqb (own y) j (sym (e ∙ block-entry y h))) (omega arith)

      lower-one : (u : ℕ) × (u < y) × Linked es u y × (j ≡ get_or block u 0) → 1 ≤ only (eqb (own y) j) 1 + total ranks (into y j)
      lower-one (u, l, e, q) =
          let b : j ≡ own u = q ∙ block-entry u (omega arith) in
          ⊎_elim
          (λ (s : top_of u ≡ top_of y). rw (eq-eqb (own y) j (sym (b ∙ own_same s))) (omega arith))
          (λ c. omega (arith, counted u c.0 c.1 b))
          (cut-counts l h e)
        where
          own_same : top_of u ≡ top_of y → own u ≡ own y
          own_same s = ap packed s

          counted : (u : ℕ) → top_of u < n → counts (top_of u) y ≡ true → j ≡ own u → 1 ≤ total ranks (into y j)
          counted u i c b =
              le_trans (le_of_eq (sym (rw (c, eq-eqb (packed (top_of u)) j (sym b)) refl)))
              (sum-entry-in (into y j) {z = top_of u} (in-stretch 0 n (omega arith) (omega (arith, i))))

  -- the block count of y, less one, is at most the number of cut vertices that count it
  count-cuts : (y : ℕ) → y < n → block_count_of k block es y ≤ 1 + total ranks (λ t. only (counts t y) 1)
  unfolding block_count_of different tabulate ranks into
  count-cuts y h =
      rw (count-total at_y (stretch 0 k))
      (le_trans
      (total-le (λ j. only (at_y j) 1) (λ j. only (eqb (own y) j) 1 + total ranks (into y j)) (stretch 0 k) (λ j m. each j))
      (omega (
        arith,
        total-add (λ j. only (eqb (own y) j) 1) (λ j. total ranks (into y j)) (stretch 0 k),
        total-one (own y) (λ j. 1) k,
        total-swap (λ j. into y j) (stretch 0 k) ranks,
        total-le (λ t. total (stretch 0 k) (λ j. into y j t)) (λ t. only (counts t y) 1) ranks (λ t m. once (counts t y) t),
      )))
    where
      at_y : ℕ → Bool
      at_y j = member j (blocks_at block es y)

      each : (j : ℕ) → only (at_y j) 1 ≤ only (eqb (own y) j) 1 + total ranks (into y j)
      each j = test-cases (at_y j) (λ e. rw e (met y j h e)) (λ e. rw e (omega arith))

      -- a cut vertex goes into one block
      once : (b : Bool) (t : ℕ) → total (stretch 0 k) (λ j. only b (only (eqb (packed t) j) 1)) ≤ only b 1
      once true t = total-one (packed t) (λ j. 1) k
      once false t = le_of_eq (sum-nought (λ j. 0) (stretch 0 k) (λ z m. refl))

  -- a cut vertex is counted once for each vertex in its reach
  cut-reach : (t : ℕ) → total ranks (λ y. only (counts t y) 1) ≤ cond (is_cut parents tops t) (reach parents es t) 0
  unfolding ranks counts reach
  cut-reach t = go (is_cut parents tops t)
    where
      go : (b : Bool) → total (stretch 0 n) (λ y. only (b && (member y (ancestors parents t) && some_entry (enters parents t y) es)) 1) ≤ cond b (count (λ y. some_entry (enters parents t y) es) (ancestors parents t)) 0
      go true = members-count (λ y. some_entry (enters parents t y) es) n (ancestors parents t)
      go false = le_of_eq (sum-nought (λ y. 0) (stretch 0 n) (λ z m. refl))

  -- "Volume never exceeds bound."
  pub volume-any : volume n k (tabulate n (λ x. packed (top (forest n es) cuts x))) es ≤ bound (forest n es) es (tabulate n (top (forest n es) cuts))
  unfolding volume bound parents tops block top_of ranks
  volume-any =
      le_trans (le_of_eq (table-total n volumes))
      (le_trans
      (total-le volumes (λ y. total ranks (λ t. only (counts t y) 1)) ranks (λ y m. omega (arith, count-cuts y (omega (arith, (stretch-in 0 n m).1)))))
      (le_trans
      (le_of_eq (total-swap (λ y t. only (counts t y) 1) ranks ranks))
      (le_trans
      (total-le (λ t. total ranks (λ y. only (counts t y) 1)) bounds ranks (λ t m. cut-reach t))
      (le_of_eq (sym (ap (λ (m : ℕ). sum (tabulate m bounds)) (forest-length n es) ∙ table-total n bounds))))))
    where
      volumes : ℕ → ℕ
      volumes y = block_count_of k block es y - 1

      bounds : ℕ → ℕ
      bounds t = cond (is_cut parents tops t) (reach parents es t) 0

volume-table : {n : ℕ} {es : List Edge} (p : List ℕ) → n ≤ absent → Proper n es → p ≡ forest n es → (cuts : ℕ → Bool) (packed : ℕ → ℕ) (k : ℕ)
    → volume (length p) k (tabulate (length p) (λ x. packed (top p cuts x))) es ≤ bound p es (tabulate (length p) (top p cuts))
volume-table {n} {es} p small proper e cuts packed k = rw (e, forest-length n es) (volume-any small proper cuts packed k)

-- so it is for every limit and number of blocks by which a net with the forest of the edges is divided
pub volume-bound : {n : ℕ} {es : List Edge} (net : Net) → n ≤ max_vertices → Proper n es → net.parents ≡ forest n es
    → (B k : ℕ) → volume_of net es B k ≤ bound_of net es B k
unfolding volume_of bound_of
volume-bound {n} {es} net few proper e B k =
    rw (divided-top net B k, divided-block net B k)
    (volume-table net.parents (omega arith) proper e (cuts net B k) (packed net B k) k)
