use native.Mathlib.Omega.{arith}
use Rattle.edge.proofs.Splitting.{ties-few, ties-split, ties-fewer}
use Rattle.edge.proofs.tie.IterIterator.next.Goals as goal

pub returns-in_err-tie-clause-steps : goal.returns-in_err-tie-clause-steps
returns-in_err-tie-clause-steps c = let e = ties-few c.args.self.now.list.now (omega (arith, c.in_err-tie.ensures.cases)) in rw c.from_residual.ensures (e, e)

pub returns-clause-steps : goal.returns-clause-steps
returns-clause-steps c = let p = c.in_ok-tie.ensures.cases in ties-split _ _ _ p.0 p.1 p.2

pub returns-clause-goes : goal.returns-clause-goes
returns-clause-goes c = let p = c.in_ok-tie.ensures.cases in record { on = λ f. (tt, tt, ties-fewer _ _ _ p.0 p.1 p.2); keeps = tt; rests = λ _. tt }
