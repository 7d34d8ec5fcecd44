use mathlib.Core.Path.{◌≡◌, refl, sym, ap, ◌∙◌}
use Prim.Native.Nat.{ℕ, suc}
use native.Mathlib.Omega.{arith}
use lib.ListN.{length, replicate, length-replicate}
use Rattle.refusal.specs.Numbers.{verdict}
use Rattle.refusal.proofs.Ends.{ends-accepted}
use Rattle.refusal.proofs.Numbers.{ends-handed}
use Rattle.index.specs.Index.{index as index_tables, vertices}
use Rattle.index.specs.Build.{index_outcome}
use Rattle.index.proofs.Laid.{sorted-index, lent_length, lent-clear, put_back}
use Rattle.index.proofs.Accepted.{Accepted, index-accepted}
use Rattle.index.proofs.index.Goals.{After-fill}
use Rattle.index.proofs.index.Goals as goal

-- the number of vertices
abbrev count : After-fill → ℕ
count c =
    vertices (index_tables c.args.starts.now c.args.neighbours.now)

-- what came in, where it is not refused
accepted : (c : After-fill) → Accepted (index_tables c.args.starts.now
    c.args.neighbours.now)
    c.args.old.now
    c.args.added.now
accepted c = index-accepted _ _ _ (sym c.in_ok-index_refusal.ensures)

zeros : (c : After-fill) → c.fill.new.self ≡ replicate (suc (count c)) 0
zeros c = rw (accepted c).one_more at c.fill.ensures.after (λ y e. e)

full : (c : After-fill) → length c.fill.new.self ≡ suc (count c)
full c = ap length (zeros c) ∙ length-replicate _ _

pub returns-in_err-index_refusal : goal.returns-in_err-index_refusal
unfolding index_outcome
returns-in_err-index_refusal c = ends-handed _ _ _ _ _ _ c.from_residual.ensures.1 c.in_err-index_refusal.ensures refl

pub slice_bounds-sort_arcs-count : goal.slice_bounds-sort_arcs-count
slice_bounds-sort_arcs-count c = omega (arith, full (goal.at.slice_bounds-sort_arcs-count c).After-fill)

pub sort_arcs-requires : goal.sort_arcs-requires
sort_arcs-requires c =
    let e = lent_length (count (goal.at.sort_arcs-requires c).After-fill) (zeros (goal.at.sort_arcs-requires c).After-fill) in
    (rw e (accepted (goal.at.sort_arcs-requires c).After-fill).lists, lent-clear (count (goal.at.sort_arcs-requires c).After-fill) (zeros (goal.at.sort_arcs-requires c).After-fill))

pub returns : goal.returns
unfolding verdict index_outcome
returns c =
    let a = accepted (goal.at.returns c).After-fill in
    let e = lent_length (count (goal.at.returns c).After-fill) (zeros (goal.at.returns c).After-fill) in
    let b = put_back (count (goal.at.returns c).After-fill) (zeros (goal.at.returns c).After-fill) c.sort_arcs.new.ends in
    ends-accepted _ _ _ _ refl (sym c.in_ok-index_refusal.ensures)
    (rw b (sorted-index a.lists.proper (c.sort_arcs.auto.neighbours ∙ a.lists.room) (rw e at c.sort_arcs.ensures)))

pub slice_bounds-sort_arcs-start : goal.slice_bounds-sort_arcs-start
slice_bounds-sort_arcs-start c = omega (arith, full (goal.at.slice_bounds-sort_arcs-start c).After-fill)
