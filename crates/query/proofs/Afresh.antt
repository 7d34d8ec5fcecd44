-- The index of an old list and an added one is that of both as one list, refusals included.
-- Assumes nothing.
use mathlib.Core.Path.{◌≡◌, refl, sym, ◌∙◌}
use mathlib.Core.Bool.{false}
use mathlib.Core.List.{List, [], ◌++◌, append-nil}
use Prim.Native.Nat.{ℕ}
use Rattle.game.specs.Edge.{ties, edges}
use Rattle.refusal.specs.Refusal.{not_whole}
use Rattle.game.proofs.Edges.{ties-append, edges-append}
use Rattle.refusal.proofs.First.{first-same, list-whole, whole_append, pass}
use Rattle.index.specs.Index.{Index}
use Rattle.index.specs.Build.{index_refusal, index_outcome}

module _ (t : Index) (old added : List ℕ) (whole : not_whole old ≡ false) where
  both : edges (old ++ added) ++ edges [] ≡ edges old ++ edges added
  unfolding edges ties
  both = append-nil (edges (old ++ added)) ∙ edges-append old added (list-whole old whole)

  both-ties : ties (old ++ added) ++ ties [] ≡ ties old ++ ties added
  unfolding ties
  both-ties = append-nil (ties (old ++ added)) ∙ ties-append old added (list-whole old whole)

  same-refusal : index_refusal t old added ≡ index_refusal t (old ++ added) []
  unfolding index_refusal not_whole
  same-refusal =
      rw (both, both-ties, whole_append old added (list-whole old whole))
      (first-same _ _ _ (first-same _ _ _ (pass _ _ whole ∙ sym (first-same _ _ _ (pass _ _ refl)))))

  -- Document 02, Paper 1: "an added list, given with the old list, yields the index that building afresh over both would give"
  pub index-afresh : index_outcome t old added ≡ index_outcome t (old ++ added) []
  unfolding index_outcome
  index-afresh = rw (← same-refusal, both) refl
