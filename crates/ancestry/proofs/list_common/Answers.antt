use Rattle.ancestry.proofs.Listed.{lists-not, lists}
use Rattle.refusal.specs.Numbers.{verdict}
use Rattle.ancestry.proofs.list_common.Goals as goal

pub returns-then-meet-one : goal.returns-then-meet-one
unfolding verdict
returns-then-meet-one c =
    lists-not c.requires.0 c.lowest_common-meet.ensures c.requires.1 c.requires.2 _ c.if-meet-one.true

pub write_path-count-requires : goal.write_path-count-requires
write_path-count-requires c =
    (c.requires.0, c.requires.3, c.lowest_common-meet.ensures.inside)

pub returns : goal.returns
unfolding verdict
returns c =
    lists c.requires.0 c.lowest_common-meet.ensures c.requires.1 c.requires.2 _ c.if-meet-one.false c.write_path-count.ensures.0 c.write_path-count.ensures.1 c.found.ensures
