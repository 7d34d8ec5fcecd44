use native.Mathlib.Omega.{arith}
use mathlib.Core.Path.{sym, ◌∙◌}
use Rattle.refusal.proofs.First.{good-count}
use Rattle.read.proofs.read_refusal.Goals as goal

pub overflow_mul-n : goal.overflow_mul-n
overflow_mul-n c = omega (arith, good-count c.args.n (sym c.bad_count.ensures ∙ c.if-bad_count.false))

pub records_refusal-requires : goal.records_refusal-requires
records_refusal-requires c = (c.if-bytes-n.false, (good-count _ (sym c.bad_count.ensures ∙ c.if-bad_count.false)).1)
