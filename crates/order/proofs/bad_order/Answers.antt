use mathlib.Core.Path.{sym, ◌∙◌}
use Rattle.order.proofs.Scan.{read_none, read-large, read_again, read-room, read-clear, read-on, read_all}
use Rattle.order.proofs.bad_order.Goals as goal

pub loop-vertex-init : goal.loop-vertex-init
loop-vertex-init c = read_none (rw (c.into_iter-vertex-iterator.ensures.into_iter_gives, c.rev-vertex-items.ensures.source) c.iter.ensures.rest)

pub returns-then-n-v : goal.returns-then-n-v
returns-then-n-v c = sym (read-large _ _ c.loop-vertex.invariant c.in-Some.ensures.steps c.if-n-v.true)

pub returns-then-contains : goal.returns-then-contains
returns-then-contains c = sym (read_again _ _ c.loop-vertex.invariant c.in-Some.ensures.steps (sym c.contains.ensures ∙ c.if-contains.true))

pub contains-requires : goal.contains-requires
contains-requires c = read-room _ _ c.loop-vertex.invariant c.in-Some.ensures.steps c.requires c.if-n-v.false

pub insert_vertex-requires : goal.insert_vertex-requires
insert_vertex-requires c =
    let p = read-room _ _ c.loop-vertex.invariant c.in-Some.ensures.steps c.requires c.if-n-v.false in
    (p.0, p.1, read-clear _ _ c.loop-vertex.invariant c.in-Some.ensures.steps (sym c.contains.ensures ∙ c.if-contains.false))

pub loop-vertex-preserved : goal.loop-vertex-preserved
loop-vertex-preserved c =
    read-on _ _ c.loop-vertex.invariant c.in-Some.ensures.steps c.if-n-v.false (sym c.contains.ensures ∙ c.if-contains.false) c.insert_vertex.ensures

pub returns : goal.returns
returns c = sym (read_all c.loop-vertex.invariant c.in-None.ensures.steps.0)
