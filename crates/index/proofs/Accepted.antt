-- What is known of the lists and the tables where an index is not refused.
-- Assumes nothing.
use mathlib.Core.Path.{◌≡◌, subst}
use mathlib.Core.Bool.{false}
use mathlib.Core.List.{List, ◌++◌}
use Prim.Native.Nat.{ℕ, suc}
use native.Mathlib.Omega.{arith}
use lib.ListN.{length}
use borrow.Author.Tests.{ltb-false}
use Rattle.game.specs.Edge.{ties, edges}
use Rattle.game.specs.Graph.{Proper}
use Rattle.game.proofs.Edges.{rowless-append}
use Rattle.refusal.specs.Limits.{max_edges}
use Rattle.refusal.specs.Refusal.{bad_count, first_fault}
use Rattle.refusal.proofs.First.{first-none, given-none, good-count, length-right}
use Rattle.refusal.proofs.Fault.{faultless-proper}
use Rattle.index.specs.Index.{Index, vertices}
use Rattle.index.specs.Build.{index_refusal}
use Rattle.arcs.specs.Steps.{Indexable}

pub record Accepted (t : Index) (old added : List ℕ) : Type 0 where
  pub count : bad_count (vertices t) ≡ false
  pub one_more : length t.starts ≡ suc (vertices t)
  pub lists : Indexable (vertices t) (length t.neighbours) old added

-- the edges of both lists
both-proper : (n : ℕ) (old added : List ℕ) → first_fault n (ties old ++ ties added) ≡ 0 → Proper n (edges old ++ edges added)
unfolding edges
both-proper n old added f = subst (Proper n) (rowless-append (ties old) (ties added)) (faultless-proper n (ties old ++ ties added) f)

pub index-accepted : (t : Index) (old added : List ℕ) → index_refusal t old added ≡ 0 → Accepted t old added
unfolding index_refusal vertices
index-accepted t old added z =
    let a = first-none _ _ z in
    let b = first-none _ _ a.1 in
    let c = first-none _ _ b.1 in
    let d = first-none _ _ c.1 in
    let e = first-none _ _ d.1 in
    let f = first-none _ _ e.1 in
    let g = first-none _ _ f.1 in
    let n = good-count (vertices t) (given-none _ _ b.0) in
    record {
      count = given-none _ _ b.0;
      one_more = omega (arith, n.0);
      lists = record {
        proper = both-proper (vertices t) old added f.0;
        room = length-right _ _ (given-none _ _ e.0);
        small = ltb-false max_edges (length (edges old ++ edges added)) (given-none _ _ g.0);
      };
    }
