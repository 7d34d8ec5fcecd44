-- Block counts depend neither on the order of the edges nor on the way round in which an edge is written.
-- Assumes nothing.
use mathlib.Core.Path.{◌≡◌, refl, sym, ap, ap₂, ◌∙◌}
use mathlib.Core.Bool.{Bool, true, false, ◌&&◌, ◌||◌, cond}
use mathlib.Core.List.{List, [], ◌∷◌}
use Prim.Native.Nat.{ℕ}
use native.Mathlib.Nat.{min_comm}
use lib.Dec.{eqb}
use lib.ListN.{get_or}
use Rattle.game.specs.Table.{tabulate, member, some_entry, filtered}
use Rattle.game.specs.Edge.{Edge, ◌─◌, lower, touches}
use Rattle.game.specs.Graph.{Same}
use Rattle.game.specs.Net.{owner}
use Rattle.game.proofs.Bools.{or_comm}
use Rattle.game.proofs.Order.{some-order}
use Rattle.reach_slots.proofs.Counts.{count-ext}
use Rattle.block_count.specs.BlockCount.{edge_block, edge_blocks_of, blocks_at, different, block_count_of}

module _ (block : List ℕ) (x j : ℕ) where
  -- an edge of x in block j
  meets : Edge → Bool
  meets e = touches x e && eqb j (edge_block block e)

  meets-turn : (a b : ℕ) → meets (b ─ a) ≡ meets (a ─ b)
  unfolding meets touches edge_block owner lower
  meets-turn a b = ap₂ (λ (t : Bool) (low : ℕ). t && eqb j (get_or block low 0)) (or_comm (eqb b x) (eqb a x)) (min_comm b a)

  member-meets : (es : List Edge) → member j (blocks_at block es x) ≡ some_entry meets es
  unfolding meets blocks_at edge_blocks_of filtered member some_entry
  member-meets [] = refl
  member-meets (e ∷ es) = here (member-meets es) (touches x e)
    where
      here : member j (edge_blocks_of block (filtered (touches x) es)) ≡ some_entry meets es → (t : Bool) → member j (edge_blocks_of block (cond t (e ∷ filtered (touches x) es) (filtered (touches x) es))) ≡ (t && eqb j (edge_block block e) || some_entry meets es)
      here rest true = ap (λ (b : Bool). eqb j (edge_block block e) || b) rest
      here rest false = rest

  pub member-order : {es fs : List Edge} → Same es fs → member j (blocks_at block es x) ≡ member j (blocks_at block fs x)
  member-order {es} {fs} s = member-meets es ∙ some-order meets meets-turn s ∙ sym (member-meets fs)

pub block-count-order : (k : ℕ) (block : List ℕ) {es fs : List Edge} → Same es fs → (x : ℕ) → block_count_of k block es x ≡ block_count_of k block fs x
unfolding block_count_of different
block-count-order k block {es} {fs} s x =
    count-ext (λ (j : ℕ). member j (blocks_at block es x)) (λ (j : ℕ). member j (blocks_at block fs x)) (tabulate k (λ (j : ℕ). j)) (λ j m. member-order block x j s)
