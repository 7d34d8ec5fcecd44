use native.Mathlib.Omega.{arith}
use mathlib.Core.Path.{sym, ◌∙◌}
use Rattle.refusal.proofs.First.{given-true, given-false}
use Rattle.refusal.proofs.Fault.{fault-left, fault-right, fault-same, fault-given}
use Rattle.refusal.proofs.ties.check_tie.Goals as goal

pub returns-then-n-tie : goal.returns-then-n-tie
returns-then-n-tie c = sym (fault-left _ _ _ _ (omega arith))

pub returns-then-n-tie-2 : goal.returns-then-n-tie-2
returns-then-n-tie-2 c = sym (fault-right _ _ _ _ (omega arith) (omega arith))

pub returns-then-tie : goal.returns-then-tie
returns-then-tie c = sym (fault-same _ _ _ _ (omega arith) (omega arith) (omega arith))

pub returns-then-bad_rows : goal.returns-then-bad_rows
returns-then-bad_rows c = sym (fault-given _ _ _ _ (omega arith) (omega arith) (omega arith) ∙ given-true _ 32 (sym c.bad_rows.ensures ∙ c.if-bad_rows.true))

pub returns : goal.returns
returns c = sym (fault-given _ _ _ _ (omega arith) (omega arith) (omega arith) ∙ given-false _ 32 (sym c.bad_rows.ensures ∙ c.if-bad_rows.false))
