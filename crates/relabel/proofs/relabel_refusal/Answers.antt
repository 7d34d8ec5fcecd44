use mathlib.Core.Path.{sym, ◌∙◌}
use Rattle.refusal.proofs.First.{good-count}
use Rattle.relabel.proofs.relabel_refusal.Goals as goal

pub bad_order-requires : goal.bad_order-requires
bad_order-requires c = (good-count _ (sym c.bad_count.ensures ∙ c.if-bad_count.false)).1
