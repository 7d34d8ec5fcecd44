-- The loops that pack the groups and give each vertex the block of its top.
-- Assumes nothing.
use mathlib.Core.Path.{◌≡◌, refl, sym, ap, ◌∙◌}
use mathlib.Core.Logic.{◌≢◌, by_cases}
use mathlib.Core.Bool.{Bool}
use mathlib.Core.List.{List}
use Prim.Native.Nat.{ℕ, suc, ◌+◌, ◌≤◌, ◌<◌}
use native.Mathlib.Numerals.{add-one}
use native.Mathlib.Decide.{ℕ_discrete}
use native.Mathlib.Omega.{arith}
use lib.Dec.{eqb}
use lib.ListN.{length, get_or, set, replicate, length-set}
use lib.Seq.{get_or-set_same, get_or-set_other}
use borrow.Author.Tests.{eq-eqb, ne_eqb}
use Rattle.game.specs.Table.{tabulate, sum}
use Rattle.game.proofs.Tables.{sum-entry, tabulate-unique}
use Rattle.refusal.specs.Limits.{max_total}
use Rattle.refusal.specs.DivisionLimits.{max_blocks}
use Rattle.pack.specs.Lightest.{lightest}
use Rattle.pack.specs.Pack.{with_load, loads_below, block_of}
use Rattle.pack.specs.PackingSteps.{Packable, Packed, Topped, Assigned}
use Rattle.groups.proofs.Sums.{only, total-more}
use Rattle.cut.proofs.Carried.{entry}
use Rattle.pack.proofs.BlockLoads.{pack-none, pack-on, pack-pass, loads-length, loads-sum, block_inside, with-load-here}

-- who is a top, by the table of tops
abbrev pub top_in : List ℕ → ℕ → Bool
top_in tops x = eqb (get_or tops x 0) x

-- the groups with a top below x are packed
pub record Packs (tops carried : List ℕ) (k x : ℕ) (block loads : List ℕ) : Type 0 where
  pub within : x ≤ length tops
  pub sized : length block ≡ length tops
  pub table : loads ≡ loads_below (top_in tops) (entry carried) k x
  pub each : (y : ℕ) → y < x → get_or tops y 0 ≡ y → get_or block y 0 ≡ block_of (top_in tops) (entry carried) k y

module _ {tops carried block₀ loads₀ : List ℕ} (g : Packable tops carried block₀ loads₀) where
  pub packs-none : loads₀ ≡ replicate (length loads₀) 0 → Packs tops carried (length loads₀) 0 block₀ loads₀
  packs-none e =
      record {
        within = omega arith;
        sized = g.sized;
        table = e ∙ sym (pack-none (top_in tops) (entry carried) (length loads₀));
        each = λ y h. absurd (omega arith);
      }

  module _ {x : ℕ} {block loads : List ℕ} (t : Packs tops carried (length loads₀) x block loads) where
    pub packs-length : length loads ≡ length loads₀
    packs-length = ap length t.table ∙ loads-length (top_in tops) (entry carried) (length loads₀) x

    pub packs-few : length loads ≤ max_blocks
    packs-few = omega (arith, packs-length, g.few)

    -- all groups are packed
    pub packs-all : length tops ≤ x → Packed tops carried block loads
    packs-all h =
        let e : x ≡ length tops = omega (arith, t.within) in
        record {
          all = record { table = t.table ∙ ap (loads_below (top_in tops) (entry carried) (length loads₀)) e ∙ ap (λ (k : ℕ). loads_below (top_in tops) (entry carried) k (length tops)) (sym packs-length) };
          each = λ y l q. rw packs-length (t.each y (omega arith) q);
        }

    next : loads_below (top_in tops) (entry carried) (length loads₀) (x + 1) ≡ loads_below (top_in tops) (entry carried) (length loads₀) (suc x)
    next = ap (loads_below (top_in tops) (entry carried) (length loads₀)) (add-one x)

    -- x is no top
    pub packs-pass : x < length tops → get_or tops x 0 ≢ x → {block' loads' : List ℕ} → block' ≡ block → loads' ≡ loads
        → Packs tops carried (length loads₀) (x + 1) block' loads'
    packs-pass l d p q =
        record {
          within = omega arith;
          sized = ap length p ∙ t.sized;
          table = q ∙ t.table ∙ sym (next ∙ pack-pass (top_in tops) (entry carried) (length loads₀) x (ne_eqb (get_or tops x 0) x d));
          each =
              λ y h c.
              rw p
              (t.each y (by_cases (ℕ_discrete y x) (λ (f : y ≡ x). absurd (d (sym (ap (λ (z : ℕ). get_or tops z 0) f) ∙ c ∙ f))) (λ (f : y ≢ x). omega arith)) c);
        }

    -- x is a top, and its group goes into block b
    module _ (l : x < length tops) (e : get_or tops x 0 ≡ x) {b : ℕ} (c : b ≡ lightest loads) where
      chosen : b ≡ block_of (top_in tops) (entry carried) (length loads₀) x
      unfolding block_of
      chosen = c ∙ ap lightest t.table

      pub packs-inside : b < length loads
      packs-inside = omega (arith, chosen, packs-length, block_inside (top_in tops) (entry carried) (length loads₀) g.some x)

      on : loads_below (top_in tops) (entry carried) (length loads₀) (suc x) ≡ with_load loads b (get_or carried x 0)
      on = pack-on (top_in tops) (entry carried) (length loads₀) x (eq-eqb (get_or tops x 0) x e) ∙ rw (← t.table, ← chosen) refl

      pub packs-fits : get_or loads b 0 + get_or carried x 0 ≤ max_total
      unfolding tabulate
      packs-fits =
          omega (
            arith,
            with-load-here loads b (get_or carried x 0) packs-inside,
            sum-entry (with_load loads b (get_or carried x 0)) b,
            ap sum on,
            loads-sum (top_in tops) (entry carried) (length loads₀) g.some (suc x),
            total-more (λ y. only (top_in tops y) (entry carried y)) (suc x) (length tops) l,
            g.small,
          )

      pub packs-more : {block' loads' : List ℕ} → block' ≡ set block x b → loads' ≡ set loads b (get_or loads b 0 + get_or carried x 0)
          → Packs tops carried (length loads₀) (x + 1) block' loads'
      unfolding with_load
      packs-more p q =
          record {
            within = omega arith;
            sized = ap length p ∙ length-set block x b ∙ t.sized;
            table = q ∙ sym (next ∙ on);
            each =
                λ y h f.
                rw p
                (by_cases (ℕ_discrete y x)
                (λ (r : y ≡ x). rw r (get_or-set_same block x b 0 (omega (arith, t.sized)) ∙ chosen))
                (λ (r : y ≢ x). get_or-set_other block x y b 0 r ∙ t.each y (omega arith) f));
          }

-- each vertex below x has the block of its top
pub record Spread (tops was block : List ℕ) (x : ℕ) : Type 0 where
  pub within : x ≤ length tops
  pub sized : length block ≡ length tops
  pub given : (y : ℕ) → y < x → get_or block y 0 ≡ get_or was (get_or tops y 0) 0
  pub kept : (y : ℕ) → x ≤ y → get_or block y 0 ≡ get_or was y 0

-- packed, and given to each vertex
pub spread-assigned : {tops carried block block' loads : List ℕ} → Topped tops → Packed tops carried block loads → length block' ≡ length tops
    → ((x : ℕ) → x < length tops → get_or block' x 0 ≡ get_or block (get_or tops x 0) 0) → Assigned tops carried block' loads
spread-assigned {tops} {carried} {block} {block'} {loads} g a e b =
    record {
      all = a.all;
      blocks =
          tabulate-unique (length tops) (λ y. block_of (top_in tops) (entry carried) (length loads) (get_or tops y 0)) block' 0 e
          (λ x l. b x l ∙ a.each (get_or tops x 0) (g.inside x l) (g.own x l));
    }
