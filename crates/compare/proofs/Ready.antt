-- What is known where neither a length nor the list is refused: the net may be compared with the list.
-- Assumes nothing.
use mathlib.Core.Path.{◌≡◌, sym, ap, ◌∙◌}
use mathlib.Core.Bool.{false}
use mathlib.Core.List.{List}
use Prim.Native.Nat.{ℕ, ◌+◌, ◌≤◌}
use native.Mathlib.Omega.{arith}
use lib.ListN.{length}
use Rattle.game.specs.Edge.{ties, edges}
use Rattle.game.specs.Net.{Net}
use Rattle.game.proofs.Bools.{or-neither}
use Rattle.refusal.specs.Limits.{max_vertices}
use Rattle.refusal.specs.Refusal.{first_fault, list_refusal}
use Rattle.refusal.proofs.First.{length-right}
use Rattle.refusal.proofs.ListRefusal.{list-passed}
use Rattle.growth.specs.Work.{Work}
use Rattle.growth.proofs.Rooms.{good-work}
use Rattle.compare.specs.Compare.{wrong_compared}
use Rattle.compare.specs.Steps.{Comparable}

-- the lengths of the comparison tables and the work tables, for n vertices and m edges
pub record ComparedLengths (n m : ℕ) (compared : Net) (work : Work) : Type 0 where
  pub parents : length compared.parents ≡ n
  pub weights : length compared.weights ≡ n
  pub ends : length work.ends ≡ n
  pub jump : length work.jump ≡ n
  pub lower : length work.lower ≡ n + m

pub compared-lengths : (n m : ℕ) (compared : Net) (work : Work) → wrong_compared n m compared work ≡ false → ComparedLengths n m compared work
unfolding wrong_compared
compared-lengths n m compared work e =
    let a = or-neither _ _ e in
    let b = or-neither _ _ a.0 in
    let g = good-work n (n + m) work a.1 in
    record { parents = length-right _ _ b.0; weights = length-right _ _ b.1; ends = g.0; jump = g.1; lower = g.2 }

pub comparable : (of : Net) (xs : List ℕ) (compared : Net) (work : Work) → length of.parents ≤ max_vertices → length of.weights ≡ length of.parents
    → ComparedLengths (length of.parents) (length (edges xs)) compared work → list_refusal (length of.parents) xs ≡ 0 → Comparable of xs compared work
comparable of xs compared work n w l z =
    let list = list-passed (length of.parents) xs z in
    record {
      parents = sym l.parents;
      weights = w ∙ sym l.parents;
      growable = record {
        vertices = omega (arith, l.parents);
        few = list.1;
        faultless = ap (λ (m : ℕ). first_fault m (ties xs)) l.parents ∙ list.0;
        weights = l.weights ∙ sym l.parents;
        ends = l.ends ∙ sym l.parents;
        jump = l.jump ∙ sym l.parents;
        lower = l.lower ∙ ap (λ (m : ℕ). m + length (edges xs)) (sym l.parents);
      };
    }
