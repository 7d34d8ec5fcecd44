use mathlib.Core.Path.{sym, ◌∙◌}
use Rattle.refusal.proofs.First.{pass, stop, first-pass, first-stop, first-end}
use Rattle.refusal.specs.Refusal.{list_refusal}
use Rattle.refusal.proofs.ListRefusal.{many-edges, few-edges}
use Rattle.refusal.proofs.Numbers.{number-positive, handed-on}
use Rattle.refusal.proofs.ties.check_list.Goals as goal

pub returns-in_err-check_ties : goal.returns-in_err-check_ties
unfolding list_refusal
returns-in_err-check_ties c =
    handed-on _ _ c.from_residual.ensures.1
    (c.in_err-check_ties.ensures ∙ sym (first-stop _ _ (λ z. number-positive _ (c.in_err-check_ties.ensures ∙ z))))

pub returns-then-count-gt-MAX_EDGES : goal.returns-then-count-gt-MAX_EDGES
unfolding list_refusal
returns-then-count-gt-MAX_EDGES c =
    sym (first-pass _ _ (sym c.in_ok-check_ties.ensures) ∙ stop _ _ (many-edges _ c.count.ensures c.if-count-gt-MAX_EDGES.true))

pub returns : goal.returns
unfolding list_refusal
returns c =
    sym (first-pass _ _ (sym c.in_ok-check_ties.ensures) ∙ pass _ _ (few-edges _ c.count.ensures c.if-count-gt-MAX_EDGES.false) ∙ first-end)
