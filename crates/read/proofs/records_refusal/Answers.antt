use native.Mathlib.Omega.{arith}
use mathlib.Core.Path.{sym, ◌∙◌}
use Rattle.read.proofs.Check.{checked-turn, checked-stop, checked-above, checked-within}
use Rattle.read.proofs.records_refusal.Goals as goal

pub returns-then-not-is_parent_at : goal.returns-then-not-is_parent_at
returns-then-not-is_parent_at c =
    sym (checked-stop c.requires.0 c.loop-rank.invariant.1 c.loop-rank-test.true (sym c.is_parent_at.ensures ∙ c.if-not-is_parent_at.true))

pub loop-rank-preserved : goal.loop-rank-preserved
loop-rank-preserved c = (
  omega (arith, c.word_at.type_inv),
  checked-turn c.requires.0 c.loop-rank.invariant.1 c.loop-rank-test.true (sym c.is_parent_at.ensures ∙ c.if-not-is_parent_at.false) (c.from-total.ensures ∙ c.word_at.ensures),
)

pub returns-then-total-gt-MAX_TOTAL : goal.returns-then-total-gt-MAX_TOTAL
returns-then-total-gt-MAX_TOTAL c = sym (checked-above c.requires.0 c.loop-rank.invariant.1 c.loop-rank-test.false c.if-total-gt-MAX_TOTAL.true)

pub returns : goal.returns
returns c = sym (checked-within c.requires.0 c.loop-rank.invariant.1 c.loop-rank-test.false c.if-total-gt-MAX_TOTAL.false)
