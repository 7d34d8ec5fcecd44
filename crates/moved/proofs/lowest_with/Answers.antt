use mathlib.Core.Path.{sym, ◌∙◌}
use Rattle.moved.proofs.Linked.{moved_same, moved_other, moved-above}
use Rattle.moved.proofs.lowest_with.Goals as goal

pub returns-then-moved-w : goal.returns-then-moved-w
returns-then-moved-w c = sym (moved-above _ _ _ _ c.if-moved-w.true)

pub returns-then-parents-at : goal.returns-then-parents-at
returns-then-parents-at c = sym (moved_same _ _ c.if-parents-at.true)

pub returns : goal.returns
returns c = c.min.ensures ∙ sym (moved_other _ _ c.if-parents-at.false)
