use native.Mathlib.Omega.{arith}
use mathlib.Core.Path.{sym, ◌∙◌}
use Rattle.refusal.proofs.First.{pass, stop, first-last, good-count}
use Rattle.growth.proofs.Tests.{damage}
use Rattle.separate.specs.Refused.{separate_early}
use Rattle.separate.proofs.refusals.separate_early.Goals as goal

pub of-requires : goal.of-requires
of-requires c = omega (arith, c.requires c.if-wrong.false, (good-count _ (sym c.bad_count.ensures ∙ c.if-bad_count.false)).1)

pub is_damaged-requires : goal.is_damaged-requires
is_damaged-requires c = (good-count _ (sym c.bad_count.ensures ∙ c.if-bad_count.false)).1

pub returns-then-is_damaged : goal.returns-then-is_damaged
unfolding separate_early
returns-then-is_damaged c =
    sym (pass _ _ (sym c.bad_count.ensures ∙ c.if-bad_count.false) ∙ pass _ _ c.if-wrong.false ∙ stop _ _ (damage _ c.of.ensures (sym c.is_damaged.ensures ∙ c.if-is_damaged.true)))

pub returns-then-n-one : goal.returns-then-n-one
unfolding separate_early
returns-then-n-one c =
    sym (pass _ _ (sym c.bad_count.ensures ∙ c.if-bad_count.false) ∙ pass _ _ c.if-wrong.false ∙ pass _ _
    (damage _ c.of.ensures (sym c.is_damaged.ensures ∙ c.if-is_damaged.false)) ∙ stop _ _ c.if-n-one.true)

pub returns : goal.returns
unfolding separate_early
returns c =
    c.check_list.ensures ∙ sym (pass _ _ (sym c.bad_count.ensures ∙ c.if-bad_count.false) ∙ pass _ _ c.if-wrong.false ∙ pass _ _
    (damage _ c.of.ensures (sym c.is_damaged.ensures ∙ c.if-is_damaged.false)) ∙ pass _ _ c.if-n-one.false
    ∙ first-last _)
