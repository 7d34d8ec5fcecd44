-- Writing the block of each edge, in the order of the list: where the loop stands, and its turns.
-- Assumes nothing.
use mathlib.Core.Path.{◌≡◌, refl, sym, ap, ap₂, ◌∙◌}
use mathlib.Core.List.{List, [], ◌∷◌, ◌++◌, append-nil, append_assoc}
use Prim.Native.Nat.{ℕ, ◌+◌, ◌<◌, min}
use native.Mathlib.Nat.{min-le_left}
use native.Mathlib.Numerals.{add-one}
use native.Mathlib.Omega.{arith}
use lib.ListN.{length, get_or, set, take, length-set}
use lib.Seq.{take-suc-set, take_all}
use Rattle.game.specs.Edge.{Edge, ◌─◌, lower, Tie, tie_of, without_rows, ties, edges}
use Rattle.game.specs.Graph.{Proper}
use Rattle.game.specs.Net.{owner}
use Rattle.game.proofs.Edges.{edges-ties}
use Rattle.game.proofs.Proper.{proper-head, proper-tail}
use Rattle.block_count.specs.BlockCount.{edge_block, edge_blocks_of}

-- i edges have their blocks, and those of some ties are left
pub record FillTurn (es : List Edge) (left : List Tie) (block out : List ℕ) (i : ℕ) : Type 0 where
  pub place : i + length left ≡ length es
  pub long : length out ≡ length es
  pub proper : Proper (length block) (without_rows left)
  pub filled : take i out ++ edge_blocks_of block (without_rows left) ≡ edge_blocks_of block es

pub fill_start : (xs : List ℕ) {left : List Tie} {block out : List ℕ} {i : ℕ} → i ≡ 0 → left ≡ ties xs → Proper (length block) (edges xs) → length out ≡ length (edges xs) → FillTurn (edges xs) left block out i
unfolding edges
fill_start xs z e f l = record { place = omega (arith, z, ap length e, edges-ties xs); long = l; proper = rw e f; filled = rw (z, e) refl }

module _ {es : List Edge} {left : List Tie} {block out : List ℕ} {i : ℕ} (t : FillTurn es left block out i) where
  module _ {rest : List Tie} {a b rows : ℕ} (split : left ≡ tie_of (a ─ b) rows ∷ rest) where
    proper : Proper (length block) ((a ─ b) ∷ without_rows rest)
    proper = rw split at t.proper

    -- there is a place for the edge's block
    pub fill-inside : i < length out
    fill-inside = omega (arith, t.place, t.long, ap length split)

    -- the edge's lower end is a vertex
    pub fill-lower : min a b < length block
    fill-lower = omega (arith, (proper-head proper).0, min-le_left a b)

    pub fill_step : {v k j : ℕ} → v ≡ get_or block (min a b) 0 → k ≡ i → j ≡ i + 1 → FillTurn es rest block (set out k v) j
    unfolding edge_blocks_of edge_block owner lower
    fill_step {v} {k} {j} e q n = record {
      place = omega (arith, t.place, ap length split);
      long = length-set out k v ∙ t.long;
      proper = proper-tail proper;
      filled =
          ap (λ (l : List ℕ). l ++ edge_blocks_of block (without_rows rest)) (ap₂ (λ (m u : ℕ). take m (set out u v)) n q ∙ one_more)
          ∙ append_assoc (take i out) (v ∷ []) (edge_blocks_of block (without_rows rest))
          ∙ ap (λ (u : ℕ). take i out ++ (u ∷ edge_blocks_of block (without_rows rest))) e
          ∙ ap (λ (ts : List Tie). take i out ++ edge_blocks_of block (without_rows ts)) (sym split)
          ∙ t.filled;
    }
      where
        one_more : take (i + 1) (set out i v) ≡ take i out ++ (v ∷ [])
        one_more = rw add-one (take-suc-set out i v fill-inside)

  pub fill_end : left ≡ [] → out ≡ edge_blocks_of block es
  unfolding edge_blocks_of
  fill_end e =
      sym (append-nil out)
      ∙ ap₂ (λ (l : List ℕ) (ts : List Tie). l ++ edge_blocks_of block (without_rows ts)) (sym (take_all i out (omega (arith, t.place, t.long, ap length e)))) (sym e)
      ∙ t.filled
