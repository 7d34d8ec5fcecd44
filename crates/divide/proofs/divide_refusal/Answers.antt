use native.Mathlib.Omega.{arith}
use mathlib.Core.Path.{sym, ◌∙◌}
use Rattle.refusal.proofs.First.{good-count}
use Rattle.divide.proofs.Refused.{tables-not, tables-as, damaged-as, refused-count, refused-tables, refused-limits, refused-damaged, refused-heavy, refused-not}
use Rattle.divide.proofs.divide_refusal.Goals as goal

pub returns-then-bad_count : goal.returns-then-bad_count
returns-then-bad_count c =
    sym
    (refused-count _ _ _ _
    (sym c.bad_count.ensures ∙ c.if-bad_count.true))

pub returns-then-weights-n : goal.returns-then-weights-n
returns-then-weights-n c =
    sym
    (refused-tables _ _ _ _
    (sym c.bad_count.ensures ∙ c.if-bad_count.false)
    (tables-as _ _ _ c.is_wrong.ensures ∙ c.if-weights-n.true))

pub returns-then-bad_limits : goal.returns-then-bad_limits
returns-then-bad_limits c =
    sym
    (refused-limits _ _ _ _
    (sym c.bad_count.ensures ∙ c.if-bad_count.false)
    (tables-as _ _ _ c.is_wrong.ensures ∙ c.if-weights-n.false)
    (sym c.bad_limits.ensures ∙ c.if-bad_limits.true))

pub of-requires : goal.of-requires
of-requires c =
    omega (
      arith,
      (good-count _ (sym c.bad_count.ensures ∙ c.if-bad_count.false)).1,
      (tables-not _ _ _ (tables-as _ _ _ c.is_wrong.ensures ∙ c.if-weights-n.false)).weights,
    )

pub is_damaged-requires : goal.is_damaged-requires
is_damaged-requires c =
    (good-count _ (sym c.bad_count.ensures ∙ c.if-bad_count.false)).1

pub returns-then-is_damaged : goal.returns-then-is_damaged
returns-then-is_damaged c =
    sym
    (refused-damaged _ _ _ _
    (sym c.bad_count.ensures ∙ c.if-bad_count.false)
    (tables-as _ _ _ c.is_wrong.ensures ∙ c.if-weights-n.false)
    (sym c.bad_limits.ensures ∙ c.if-bad_limits.false)
    (damaged-as _ _ c.of.ensures c.is_damaged.ensures ∙ c.if-is_damaged.true))

pub returns-then-too_heavy : goal.returns-then-too_heavy
returns-then-too_heavy c =
    sym
    (refused-heavy _ _ _ _
    (sym c.bad_count.ensures ∙ c.if-bad_count.false)
    (tables-as _ _ _ c.is_wrong.ensures ∙ c.if-weights-n.false)
    (sym c.bad_limits.ensures ∙ c.if-bad_limits.false)
    (damaged-as _ _ c.of.ensures c.is_damaged.ensures ∙ c.if-is_damaged.false)
    (sym c.too_heavy.ensures ∙ c.if-too_heavy.true))

pub returns : goal.returns
returns c =
    sym
    (refused-not _ _ _ _
    (sym c.bad_count.ensures ∙ c.if-bad_count.false)
    (tables-as _ _ _ c.is_wrong.ensures ∙ c.if-weights-n.false)
    (sym c.bad_limits.ensures ∙ c.if-bad_limits.false)
    (damaged-as _ _ c.of.ensures c.is_damaged.ensures ∙ c.if-is_damaged.false)
    (sym c.too_heavy.ensures ∙ c.if-too_heavy.false))
