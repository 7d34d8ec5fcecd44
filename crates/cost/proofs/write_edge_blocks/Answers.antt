use mathlib.Core.Logic.{inl}
use mathlib.Core.Path.{ap, ◌∙◌}
use Prim.Native.Nat.{ℕ}
use native.Mathlib.Omega.{arith}
use lib.ListN.{get_or}
use Rattle.edge.specs.Tie.{ties_left}
use Rattle.edge.specs.declared.tie.Iter.{Iter}
use Rattle.std.specs.declared.iter.Enumerate.{Enumerate}
use Rattle.cost.proofs.Filling.{fill_start, fill-lower, fill_step, fill_end}
use Rattle.cost.proofs.write_edge_blocks.Goals as goal

pub loop-i-init : goal.loop-i-init
loop-i-init c =
    let into = c.into_iter-i-iterator.ensures.into_iter_gives in
    let t = fill_start c.args.edges.now (ap (λ (s : Enumerate Iter). s.count) into ∙ c.enumerate-i-items.ensures.count)
    (ap (λ (s : Enumerate Iter). ties_left s.iter) into ∙ ap ties_left c.enumerate-i-items.ensures.source ∙ c.ties.ensures) c.requires.proper c.requires.edge_blocks_len in
    (((tt, tt, inl (omega (arith, t.place, t.long))), tt), t)

pub bounds-block-lower : goal.bounds-block-lower
bounds-block-lower c = omega (arith, c.lower.ensures, fill-lower c.loop-i.invariant.1 c.in-Some.ensures.steps.0)

pub loop-i-preserved : goal.loop-i-preserved
loop-i-preserved c =
    let s = c.in-Some.ensures.steps in
    let t = fill_step c.loop-i.invariant.1 s.0 (ap (λ (v : ℕ). get_or c.args.block.now v 0) c.lower.ensures) s.1 s.2 in
    (((tt, tt, inl (omega (arith, t.place, t.long))), tt), t)

pub returns : goal.returns
returns c = fill_end c.loop-i.invariant.1 c.in-None.ensures.steps.0.0
