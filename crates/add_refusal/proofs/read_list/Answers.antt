use mathlib.Core.Path.{sym, ◌∙◌}
use native.Mathlib.Omega.{arith}
use Rattle.refusal.proofs.First.{pass, stop, first-end, first-pass, first-stop}
use Rattle.refusal.proofs.Numbers.{number-positive, handed-on}
use Rattle.add_refusal.proofs.Steps.{list-charges, rows-many, rows_few, counted-read, list_read}
use Rattle.add_refusal.proofs.read_list.Goals as goal

pub returns-then-counted : goal.returns-then-counted
returns-then-counted c =
    counted-read (c.requires.light c.if-counted.true) c.count_list.ensures

pub returns-in_err-check_list : goal.returns-in_err-check_list
returns-in_err-check_list c =
    let e = c.in_err-check_list.ensures in
    list_read c.if-counted.false
    (handed-on _ _ c.from_residual.ensures.1 (e ∙ sym (first-stop _ _ (λ z. number-positive _ (e ∙ z)))))

pub charges-requires : goal.charges-requires
charges-requires c = omega (arith, list-charges _ _ (sym c.in_ok-check_list.ensures))

pub overflow_add-total : goal.overflow_add-total
overflow_add-total c =
    omega (arith, c.charges.ensures, list-charges _ _ (sym c.in_ok-check_list.ensures), c.requires.small)

pub returns-then-total-charges-gt-MAX_TOTAL : goal.returns-then-total-charges-gt-MAX_TOTAL
returns-then-total-charges-gt-MAX_TOTAL c =
    list_read c.if-counted.false
    (sym (first-pass _ _ (sym c.in_ok-check_list.ensures) ∙ stop _ _ (rows-many _ _ c.charges.ensures c.if-total-charges-gt-MAX_TOTAL.true)))

pub returns : goal.returns
returns c =
    list_read c.if-counted.false
    (sym (first-pass _ _ (sym c.in_ok-check_list.ensures) ∙ pass _ _ (rows_few _ _ c.charges.ensures c.if-total-charges-gt-MAX_TOTAL.false) ∙ first-end))
