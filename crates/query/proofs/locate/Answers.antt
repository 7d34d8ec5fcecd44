use native.Mathlib.Omega.{arith}
use mathlib.Core.Path.{refl, sym}
use Rattle.query.proofs.Accepted.{query-accepted, place-handed, place-accepted}
use Rattle.query.proofs.locate.Goals as goal

pub returns-in_err-query_refusal : goal.returns-in_err-query_refusal
returns-in_err-query_refusal c = place-handed _ _ _ _ c.from_residual.ensures.1 c.in_err-query_refusal.ensures

pub bounds-starts-at : goal.bounds-starts-at
bounds-starts-at c = omega (arith, (query-accepted _ _ (sym c.in_ok-query_refusal.ensures)).inside)

pub bounds-starts-at-2 : goal.bounds-starts-at-2
bounds-starts-at-2 c = (query-accepted _ _ (sym c.in_ok-query_refusal.ensures)).inside

pub overflow_sub-result : goal.overflow_sub-result
overflow_sub-result c = (query-accepted _ _ (sym c.in_ok-query_refusal.ensures)).order

pub returns : goal.returns
returns c = place-accepted _ _ c.in_ok-query_refusal.ensures refl
