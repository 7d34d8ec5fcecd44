use mathlib.Core.Path.{ap, ◌∙◌}
use Rattle.edge.specs.Tie.{ties_left}
use Rattle.edge.specs.declared.tie.Iter.{Iter}
use Rattle.game.specs.Edge.{without_rows, edges}
use Rattle.block_count.proofs.Sweep.{sweep-start, sweep-none, sweep-end, sweep-first, sweep-less, sweep-second, sweep-less-again, sweep-step}
use Rattle.block_count.proofs.waiting.settle.Goals as goal

pub loop-tie-init : goal.loop-tie-init
unfolding edges
loop-tie-init c = sweep-start c.requires (ap (λ (s : Iter). without_rows (ties_left s)) c.into_iter-tie-iterator.ensures.into_iter_gives ∙ ap without_rows c.ties-tie-items.ensures) c.count_waiting-waiting.ensures

pub returns-then-waiting-eq0 : goal.returns-then-waiting-eq0
returns-then-waiting-eq0 c = sweep-none c.requires c.loop-tie.invariant c.if-waiting-eq0.true

pub pass-waiting-requires : goal.pass-waiting-requires
pass-waiting-requires c =
    sweep-first c.requires c.loop-tie.invariant (ap without_rows c.in-Some.ensures.steps) c.lower-low.ensures

pub overflow_sub-waiting : goal.overflow_sub-waiting
overflow_sub-waiting c =
    sweep-less c.requires c.loop-tie.invariant (ap without_rows c.in-Some.ensures.steps) c.lower-low.ensures c.pass-waiting.ensures

pub pass-waiting-requires-in-loop-tie : goal.pass-waiting-requires-in-loop-tie
pass-waiting-requires-in-loop-tie c =
    sweep-second c.requires c.loop-tie.invariant (ap without_rows c.in-Some.ensures.steps) c.lower-low.ensures c.pass-waiting.ensures

pub overflow_sub-waiting-in-loop-tie : goal.overflow_sub-waiting-in-loop-tie
overflow_sub-waiting-in-loop-tie c =
    sweep-less-again c.requires c.loop-tie.invariant (ap without_rows c.in-Some.ensures.steps) c.lower-low.ensures c.pass-waiting.ensures c.pass-waiting-in-loop-tie.ensures

pub loop-tie-preserved : goal.loop-tie-preserved
loop-tie-preserved c =
    sweep-step c.requires c.loop-tie.invariant (ap without_rows c.in-Some.ensures.steps) c.lower-low.ensures c.pass-waiting.ensures c.pass-waiting-in-loop-tie.ensures

pub returns : goal.returns
returns c = sweep-end c.requires c.loop-tie.invariant (ap without_rows c.in-None.ensures.steps.0)
