use mathlib.Core.Path.{sym, ◌∙◌}
use Rattle.refusal.proofs.First.{good-count}
use Rattle.save.proofs.save_refusal.Goals as goal

pub of-requires : goal.of-requires
of-requires c = rw c.if-weights-n.false (good-count _ (sym c.bad_count.ensures ∙ c.if-bad_count.false)).1

pub is_damaged-requires : goal.is_damaged-requires
is_damaged-requires c = (good-count _ (sym c.bad_count.ensures ∙ c.if-bad_count.false)).1
