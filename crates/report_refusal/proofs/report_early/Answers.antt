use native.Mathlib.Omega.{arith}
use mathlib.Core.Path.{sym, ◌∙◌}
use Rattle.refusal.proofs.First.{pass, stop, first-pass, first-stop, first-end, good-count}
use Rattle.refusal.proofs.Numbers.{number-positive, handed-on}
use Rattle.growth.proofs.Tests.{damage}
use Rattle.report_refusal.specs.Refused.{report_early}
use Rattle.report_refusal.proofs.report_early.Goals as goal

pub returns-then-bad_count : goal.returns-then-bad_count
unfolding report_early
returns-then-bad_count c =
    sym
    (stop _ _ (sym c.bad_count.ensures ∙ c.if-bad_count.true))

pub returns-then-wrong : goal.returns-then-wrong
unfolding report_early
returns-then-wrong c =
    sym
    (pass _ _ (sym c.bad_count.ensures ∙ c.if-bad_count.false)
    ∙ stop _ _ c.if-wrong.true)

pub returns-then-bad_limits : goal.returns-then-bad_limits
unfolding report_early
returns-then-bad_limits c =
    sym
    (pass _ _ (sym c.bad_count.ensures ∙ c.if-bad_count.false)
    ∙ pass _ _ c.if-wrong.false
    ∙ stop _ _ (sym c.bad_limits.ensures ∙ c.if-bad_limits.true))

pub of-requires : goal.of-requires
of-requires c =
    omega (arith, c.requires c.if-wrong.false, (good-count _ (sym c.bad_count.ensures ∙ c.if-bad_count.false)).1)

pub is_damaged-requires : goal.is_damaged-requires
is_damaged-requires c =
    (good-count _ (sym c.bad_count.ensures ∙ c.if-bad_count.false)).1

pub returns-then-is_damaged : goal.returns-then-is_damaged
unfolding report_early
returns-then-is_damaged c =
    sym
    (pass _ _ (sym c.bad_count.ensures ∙ c.if-bad_count.false)
    ∙ pass _ _ c.if-wrong.false
    ∙ pass _ _ (sym c.bad_limits.ensures ∙ c.if-bad_limits.false)
    ∙ stop _ _ (damage _ c.of.ensures (sym c.is_damaged.ensures ∙ c.if-is_damaged.true)))

pub returns-in_err-check_list : goal.returns-in_err-check_list
unfolding report_early
returns-in_err-check_list c =
    handed-on _ _ c.from_residual.ensures.1
    (c.in_err-check_list.ensures
    ∙ sym
    (pass _ _ (sym c.bad_count.ensures ∙ c.if-bad_count.false)
    ∙ pass _ _ c.if-wrong.false
    ∙ pass _ _ (sym c.bad_limits.ensures ∙ c.if-bad_limits.false)
    ∙ pass _ _ (damage _ c.of.ensures (sym c.is_damaged.ensures ∙ c.if-is_damaged.false))
    ∙ first-stop _ _ (λ z. number-positive _ (c.in_err-check_list.ensures ∙ z))))

pub returns-then-too_heavy : goal.returns-then-too_heavy
unfolding report_early
returns-then-too_heavy c =
    sym
    (pass _ _ (sym c.bad_count.ensures ∙ c.if-bad_count.false)
    ∙ pass _ _ c.if-wrong.false
    ∙ pass _ _ (sym c.bad_limits.ensures ∙ c.if-bad_limits.false)
    ∙ pass _ _ (damage _ c.of.ensures (sym c.is_damaged.ensures ∙ c.if-is_damaged.false))
    ∙ first-pass _ _ (sym c.in_ok-check_list.ensures)
    ∙ stop _ _ (sym c.too_heavy.ensures ∙ c.if-too_heavy.true))

pub returns : goal.returns
unfolding report_early
returns c =
    sym
    (pass _ _ (sym c.bad_count.ensures ∙ c.if-bad_count.false)
    ∙ pass _ _ c.if-wrong.false
    ∙ pass _ _ (sym c.bad_limits.ensures ∙ c.if-bad_limits.false)
    ∙ pass _ _ (damage _ c.of.ensures (sym c.is_damaged.ensures ∙ c.if-is_damaged.false))
    ∙ first-pass _ _ (sym c.in_ok-check_list.ensures)
    ∙ pass _ _ (sym c.too_heavy.ensures ∙ c.if-too_heavy.false)
    ∙ first-end)
