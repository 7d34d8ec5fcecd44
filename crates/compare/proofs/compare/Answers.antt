use mathlib.Core.Path.{refl, ◌∙◌}
use native.Mathlib.Omega.{arith}
use Rattle.growth.proofs.Rooms.{same-room}
use Rattle.compare.proofs.Compared.{compared_same, compared-other}
use Rattle.compare.proofs.compare.Goals as goal

pub grow_net-requires : goal.grow_net-requires
grow_net-requires c = c.requires.growable

pub returns-then-same_net : goal.returns-then-same_net
returns-then-same_net c =
    compared_same c.requires c.grow_net.ensures c.same_net.ensures c.if-same_net.true

pub clear-requires : goal.clear-requires
clear-requires c = (omega arith, refl)

pub returns : goal.returns
returns c =
    let k = c.grow_net.auto in
    compared-other c.requires c.grow_net.ensures c.same_net.ensures c.if-same_net.false (c.clear.ensures ∙ same-room _ _ _ _ _ _ k.ends k.jump k.lower)
