-- The tables of a divided net, by their rules: tops of the groups that its cuts leave, and a block for each top.
-- Assumes nothing.
use mathlib.Core.Path.{◌≡◌, refl, sym, ap, ◌∙◌}
use mathlib.Core.Bool.{Bool}
use Prim.Native.Nat.{ℕ, ◌<◌}
use lib.Dec.{eqb}
use lib.ListN.{length, get_or}
use Rattle.game.specs.Table.{tabulate}
use Rattle.game.specs.Edge.{Edge, lower}
use Rattle.game.specs.Net.{Net}
use Rattle.game.proofs.Tables.{tabulate-entry, tabulate-ext}
use Rattle.cut.specs.Cut.{cut, top}
use Rattle.pack.specs.Pack.{block_of}
use Rattle.divide.specs.Divide.{divided}
use Rattle.pack.proofs.BlockLoads.{block_inside}
use Rattle.block_count.specs.BlockCount.{edge_block}

module _ (net : Net) (B k : ℕ) where
  pub cuts : ℕ → Bool
  cuts = cut net.parents net.weights B

  -- the block that the group with top t goes into
  pub packed : ℕ → ℕ
  packed = block_of (λ (x : ℕ). eqb (get_or (divided net B k).top x 0) x) (λ (x : ℕ). get_or (divided net B k).carried x 0) k

  pub divided-top : (divided net B k).top ≡ tabulate (length net.parents) (top net.parents cuts)
  unfolding divided cuts cut
  divided-top = refl

  block-by-table : (divided net B k).block ≡ tabulate (length net.parents) (λ x. packed (get_or (divided net B k).top x 0))
  unfolding divided packed
  block-by-table = refl

  pub top-entry : (x : ℕ) → x < length net.parents → get_or (divided net B k).top x 0 ≡ top net.parents cuts x
  top-entry x h = rw divided-top (tabulate-entry (length net.parents) (top net.parents cuts) x 0 h)

  pub divided-block : (divided net B k).block ≡ tabulate (length net.parents) (λ x. packed (top net.parents cuts x))
  divided-block =
      block-by-table
      ∙ tabulate-ext (length net.parents) (λ x. packed (get_or (divided net B k).top x 0)) (λ x. packed (top net.parents cuts x))
      (λ x h. ap packed (top-entry x h))

  pub block-entry : (x : ℕ) → x < length net.parents → get_or (divided net B k).block x 0 ≡ packed (top net.parents cuts x)
  block-entry x h = rw divided-block (tabulate-entry (length net.parents) (λ x. packed (top net.parents cuts x)) x 0 h)

  -- a block is one of the k
  pub block-below : 0 < k → (x : ℕ) → x < length net.parents → get_or (divided net B k).block x 0 < k
  unfolding packed
  block-below some x h = rw (block-entry x h) (block_inside _ _ k some (top net.parents cuts x))

  -- the block of an edge holds the group of its lower end
  pub edge-block-group : (e : Edge) (u : ℕ) → lower e < length net.parents → u < length net.parents
      → get_or (divided net B k).top u 0 ≡ get_or (divided net B k).top (lower e) 0
      → get_or (divided net B k).block u 0 ≡ edge_block (divided net B k).block e
  unfolding edge_block
  edge-block-group e u h i q =
      block-entry u i ∙ ap packed (sym (top-entry u i) ∙ q ∙ top-entry (lower e) h) ∙ sym (block-entry (lower e) h)
