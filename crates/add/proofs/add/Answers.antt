use mathlib.Core.Path.{refl, sym, subst, ◌∙◌}
use Rattle.game.proofs.Bools.{and_both}
use Rattle.refusal.specs.Numbers.{verdict}
use Rattle.refusal.proofs.Ends.{ends-accepted}
use Rattle.refusal.proofs.Numbers.{number-positive, ends-handed}
use Rattle.add.specs.Add.{add_outcome}
use Rattle.add_refusal.specs.Steps.{LightList}
use Rattle.add_refusal.proofs.Accepted.{addable}
use Rattle.add.proofs.Outcomes.{add-extendable, add-weighable, add-ends, add-moved, rising-takable, rising-extends}
use Rattle.add.proofs.Steps.{list-decides, list-kept, list_counted, rising-passes}
use Rattle.add.proofs.add.Goals as goal

pub returns-in_err-total : goal.returns-in_err-total
unfolding add_outcome
returns-in_err-total c = ends-handed _ _ _ _ _ _ c.from_residual.ensures.1 c.in_err-total.ensures refl

pub is_light-requires : goal.is_light-requires
is_light-requires c = c.in_ok-total.ensures.small

pub grow_list-lowest-requires : goal.grow_list-lowest-requires
grow_list-lowest-requires c =
    let (counted, r) = c.is_rising_first.ensures c.if-is_rising_first.true in
    let l = c.is_light.ensures (and_both c.is_long.result _ counted).1 in
    let z = rising-passes c.in_ok-total.ensures c.count-m.ensures l r in
    let a = addable _ _ z in
    (rising-takable a r, r.blank, a.work.jump)

pub returns-then-is_rising_first : goal.returns-then-is_rising_first
unfolding verdict add_outcome
returns-then-is_rising_first c =
    let (counted, r) = c.is_rising_first.ensures c.if-is_rising_first.true in
    let l = c.is_light.ensures (and_both c.is_long.result _ counted).1 in
    let z = rising-passes c.in_ok-total.ensures c.count-m.ensures l r in
    let a = addable _ _ z in
    let (g, w, k, d) = c.grow_list-lowest.ensures in
    let x = rising-extends a r g k in
    ends-accepted _ _ _ _ (add-moved a x d c.moved_at.ensures) z (add-ends a refl refl (x, w))

pub read_list-requires : goal.read_list-requires
read_list-requires c =
    let o = c.in_ok-total.ensures in
    record {
      same = o.jump ∙ sym o.ends;
      small = o.small;
      light = λ t. subst (LightList _) c.count-m.ensures (c.is_light.ensures (and_both c.is_long.result _ t).1);
    }

pub returns-in_err-read_list : goal.returns-in_err-read_list
unfolding add_outcome
returns-in_err-read_list c =
    let o = c.in_ok-total.ensures in
    let l = c.in_err-read_list.ensures in
    ends-handed _ _ _ _ _ _ c.from_residual-in_err-read_list.ensures.1 (list-decides o l) (list-kept o l (number-positive _))

pub extend-lowest-requires : goal.extend-lowest-requires
extend-lowest-requires c =
    let o = c.in_ok-total.ensures in
    let l = c.in_ok-read_list.ensures in
    let a = addable _ _ (sym (list-decides o l)) in
    (add-extendable a c.read_list.auto.ends c.read_list.auto.jump, add-weighable a, list_counted o l refl)

pub returns : goal.returns
unfolding verdict add_outcome
returns c =
    let z = sym (list-decides c.in_ok-total.ensures c.in_ok-read_list.ensures) in
    let a = addable _ _ z in
    let (x, t, d) = c.extend-lowest.ensures in
    ends-accepted _ _ _ _ (add-moved a x d c.moved_at-2.ensures) z (add-ends a c.read_list.auto.ends c.read_list.auto.jump (x, t))
