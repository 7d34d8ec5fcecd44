-- Arcs that are sorted are the index: the runs laid end to end, and where each starts.
-- Assumes nothing.
use mathlib.Core.Path.{◌≡◌, refl, sym, ap, ap₂, ◌∙◌}
use mathlib.Core.List.{List, ◌∷◌, ◌++◌, map, append-nil}
use Prim.Native.Nat.{ℕ, zero, suc, ◌+◌, ◌-◌, ◌*◌}
use native.Mathlib.Nat.{zero-add, add-zero}
use native.Mathlib.Omega.{arith}
use lib.ListN.{length, take, drop, replicate, length-replicate, drop_of_length-le}
use lib.Seq.{take_all}
use Rattle.game.specs.Table.{tabulate_from, tabulate, sum}
use Rattle.game.specs.Edge.{Edge}
use Rattle.game.specs.Graph.{Proper}
use Rattle.sorting.specs.Sorted.{keys_below, Sorted}
use Rattle.sorting.proofs.Keys.{below-zero, below_suc, below_all}
use Rattle.sorting.proofs.Values.{values_length}
use Rattle.sorting.proofs.Laid.{sorted-ends, sorted-laid}
use Rattle.arcs.specs.Arc.{source, target, arcs}
use Rattle.index.specs.Index.{run, runs, offsets, index, index_of}
use Rattle.arcs.proofs.Arcs.{arcs-length, arcs-keyed}

-- the number of arcs that leave a vertex below v
abbrev pub leaving : List Edge → ℕ → ℕ
leaving es v = keys_below source v (arcs es)

leaving-next : (es : List Edge) (v : ℕ) → leaving es (suc v) ≡ leaving es v + length (run es v)
unfolding run
leaving-next es v = omega (arith, below_suc source v (arcs es), values_length source target (arcs es) v)

from-offsets : (es : List Edge) (j v : ℕ) → offsets (leaving es v) (map length (tabulate_from v j (run es))) ≡ leaving es v ∷ tabulate_from v j (λ (u : ℕ). leaving es (suc u))
unfolding offsets tabulate_from
from-offsets es zero v = refl
from-offsets es (suc j) v =
    ap (λ (s : List ℕ). leaving es v ∷ s) (rw (leaving-next es v) at (from-offsets es j (suc v)) ∙ ap (λ (k : ℕ). k ∷ tabulate_from (suc v) j (λ (u : ℕ). leaving es (suc u))) (sym (leaving-next es v)))

-- the starts: 0, and where each run ends
pub starts-ends : (n : ℕ) (es : List Edge) → offsets 0 (map length (runs n es)) ≡ 0 ∷ tabulate n (λ (u : ℕ). leaving es (suc u))
unfolding runs tabulate
starts-ends n es = rw (below-zero source (arcs es)) at (from-offsets es n 0)

from-sizes : (es : List Edge) (j v : ℕ) → leaving es v + sum (map length (tabulate_from v j (run es))) ≡ leaving es (v + j)
unfolding sum tabulate_from
from-sizes es zero v = omega (arith, ap (leaving es) (add-zero v))
from-sizes es (suc j) v =
    let e : suc v + j ≡ v + suc j = omega arith in
    omega (arith, leaving-next es v, from-sizes es j (suc v), ap (leaving es) e)

-- the runs have two entries to an edge
pub sizes-sum : {n : ℕ} {es : List Edge} → Proper n es → sum (map length (runs n es)) ≡ 2 * length es
unfolding runs tabulate
sizes-sum {n} {es} p =
    omega (arith, from-sizes es n 0, below-zero source (arcs es), ap (leaving es) (zero-add n), below_all source (arcs-keyed p), arcs-length es)

pub sorted-index : {n : ℕ} {es : List Edge} {ends neighbours : List ℕ} → Proper n es → length neighbours ≡ 2 * length es
    → Sorted source target n (arcs es) ends neighbours → index (0 ∷ ends) neighbours ≡ index_of n es
unfolding index_of runs run
sorted-index {n} {es} {ends} {neighbours} p l s =
    ap₂ index
    (ap (λ (t : List ℕ). 0 ∷ t) (sorted-ends source target s) ∙ sym (starts-ends n es))
    (sorted-laid source target s (omega (arith, l, arcs-length es, below_all source (arcs-keyed p))))

-- The table of starts, cleared and lent from its second entry on.
module _ (k : ℕ) {cleared : List ℕ} (z : cleared ≡ replicate (suc k) 0) where
  all-cleared : length cleared - 1 ≡ k
  all-cleared = rw z (omega (arith, length-replicate {A = ℕ} (suc k) 0))

  lent-zeros : take (length cleared - 1) (drop 1 cleared) ≡ replicate k 0
  lent-zeros = rw (all-cleared, z) (take_all k (replicate k 0) (omega (arith, length-replicate {A = ℕ} k 0)))

  pub lent_length : length (take (length cleared - 1) (drop 1 cleared)) ≡ k
  lent_length = ap length lent-zeros ∙ length-replicate k 0

  pub lent-clear : take (length cleared - 1) (drop 1 cleared) ≡ replicate (length (take (length cleared - 1) (drop 1 cleared))) 0
  lent-clear = rw lent_length lent-zeros

  -- and put back
  pub put_back : (ends : List ℕ) → take 1 cleared ++ (ends ++ drop (length cleared - 1) (drop 1 cleared)) ≡ 0 ∷ ends
  put_back ends =
      rw (all-cleared, z, drop_of_length-le {A = ℕ} (replicate k 0) {i = k} (omega (arith, length-replicate {A = ℕ} k 0)), append-nil) refl
