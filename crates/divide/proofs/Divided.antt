-- The steps of dividing, put together: what they leave is what the definitions say.
-- Assumes nothing.
use mathlib.Core.Path.{◌≡◌, sym, ap, ◌∙◌}
use mathlib.Core.List.{List}
use Prim.Native.Nat.{ℕ, ◌≤◌, ◌<◌}
use native.Mathlib.Omega.{arith}
use lib.Dec.{eqb}
use lib.ListN.{length, get_or}
use Rattle.game.specs.Table.{tabulate, sum}
use Rattle.game.specs.Game.{absent}
use Rattle.game.proofs.Sound.{Sound, sound-true}
use Rattle.game.proofs.Tables.{tabulate-length, tabulate-entry}
use Rattle.cut.specs.Cut.{carried, cut, top, is_top}
use Rattle.refusal.specs.DivisionLimits.{max_blocks}
use Rattle.pack.specs.Pack.{loads_below, block_of}
use Rattle.game.specs.Net.{net}
use Rattle.divide.specs.Divide.{division_of, divided}
use Rattle.pack.specs.PackingSteps.{Packable, Topped, Assigned}
use Rattle.cut.specs.Steps.{Divisible, Grouped}
use Rattle.cut.proofs.Lists.{stretch, stretch-in, sum-agree}
use Rattle.groups.proofs.Sums.{only, total}
use Rattle.cut.proofs.Carried.{entry, carried-size, greedy-carrying}
use Rattle.groups.proofs.Groups.{top-of, top-top, tops-weight}
use Rattle.pack.proofs.Blocks.{top_in}

module _ {p w : List ℕ} {B : ℕ} (d : Divisible p w B) where
  s : Sound p
  s = sound-true p d.known

  u : length p ≤ absent
  u = omega (arith, d.few)

  module _ {now tops : List ℕ} (c : Grouped p w B now tops) where
    tops-size : length tops ≡ length p
    tops-size = ap length c.table ∙ tabulate-length (length p) (top p (cut p w B))

    pub tops-entry : (x : ℕ) → x < length p → get_or tops x 0 ≡ top p (cut p w B) x
    tops-entry x l = rw c.table (tabulate-entry (length p) (top p (cut p w B)) x 0 l)

    pub tops-topped : Topped tops
    tops-topped =
        record {
          inside = λ x l. let h : x < length p = omega (arith, tops-size) in omega (arith, tops-entry x h, tops-size, (top-of s u (cut p w B) x h).inside);
          own =
              λ x l.
              let h : x < length p = omega (arith, tops-size) in
              ap (λ (z : ℕ). get_or tops z 0) (tops-entry x h)
              ∙ tops-entry (top p (cut p w B) x) (top-of s u (cut p w B) x h).inside
              ∙ top-top s u (cut p w B) x h
              ∙ sym (tops-entry x h);
        }

    -- the groups come to the whole weight
    pub groups-weight : total (stretch 0 (length p)) (λ x. only (top_in tops x) (entry now x)) ≡ sum w
    unfolding is_top
    groups-weight =
        rw c.weights
        (sum-agree (λ x. only (top_in tops x) (entry (carried p w B) x)) (λ x. only (is_top p (cut p w B) x) (entry (carried p w B) x)) (stretch 0 (length p))
        (λ x m. ap (λ (z : ℕ). only (eqb z x) (entry (carried p w B) x)) (tops-entry x (omega (arith, (stretch-in 0 (length p) m).1))))
        ∙ tops-weight s u (greedy-carrying s u w B) d.sized)

    pub tops-packable : {block loads : List ℕ} → length block ≡ length p → 1 ≤ length loads → length loads ≤ max_blocks → Packable tops now block loads
    unfolding tabulate
    tops-packable g some few =
        record {
          told = ap length c.weights ∙ carried-size p w B ∙ sym tops-size;
          sized = g ∙ sym tops-size;
          some = some;
          few = few;
          small = rw tops-size (omega (arith, groups-weight, d.small));
        }

    -- all tables are as they have to be
    pub all-divided : {block loads : List ℕ} {k : ℕ} → Assigned tops now block loads → length loads ≡ k
        → division_of now tops block loads ≡ divided (net p w) B k
    unfolding divided cut
    all-divided {block} {loads} {k} a h = λ i. division_of (c.weights i) (c.table i) (blocks i) (sums i)
      where
        new : List ℕ
        new = tabulate (length p) (top p (cut p w B))

        blocks : block ≡ tabulate (length p) (λ x. block_of (top_in new) (entry (carried p w B)) k (get_or new x 0))
        blocks = a.blocks ∙ (λ i. tabulate (tops-size i) (λ x. block_of (top_in (c.table i)) (entry (c.weights i)) (h i) (get_or (c.table i) x 0)))

        sums : loads ≡ loads_below (top_in new) (entry (carried p w B)) k (length p)
        sums = a.all.table ∙ (λ i. loads_below (top_in (c.table i)) (entry (c.weights i)) (h i) (tops-size i))
