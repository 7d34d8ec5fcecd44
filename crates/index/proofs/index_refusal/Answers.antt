use Rattle.std.proofs.Common.{rules}
use mathlib.Core.Path.{◌≡◌, sym, ◌∙◌}
use mathlib.Core.List.{[], ◌∷◌, ◌++◌}
use Prim.Native.Nat.{◌-◌}
use lib.Dec.{ltb}
use lib.ListN.{length}
use native.Mathlib.Omega.{arith}
use borrow.Author.Tests.{eq-eqb, ne_eqb}
use Rattle.game.specs.Edge.{ties, edges}
use Rattle.game.proofs.Edges.{edges-length}
use Rattle.refusal.specs.Limits.{max_edges}
use Rattle.refusal.specs.Refusal.{given, first, first_fault}
use Rattle.refusal.proofs.First.{pass, stop, first-end, first-pass, first-stop, right-length, wrong-length}
use Rattle.index.specs.Index.{index, vertices}
use Rattle.index.specs.Build.{index_refusal}
use Rattle.refusal.proofs.Fault.{fault-first, fault-second}
use Rattle.refusal.proofs.Numbers.{number-positive, handed-on}
use Rattle.index.proofs.Refused.{both-length, too-many, not-many}
use Rattle.index.proofs.index_refusal.Goals.{Else-neighbours-edges}
use Rattle.index.proofs.index_refusal.Goals as goal

pub returns-then-starts-eq0 : goal.returns-then-starts-eq0
unfolding index_refusal vertices
returns-then-starts-eq0 c = sym (stop _ _ (eq-eqb _ _ c.if-starts-eq0.true))

pub overflow_add-edges : goal.overflow_add-edges
overflow_add-edges c =
    search (rules, c.count-2.ensures, c.count.ensures, edges-length c.args.old.now, edges-length c.args.added.now)

pub overflow_mul-edges : goal.overflow_mul-edges
overflow_mul-edges c =
    search (rules, c.count-2.ensures, c.count.ensures, edges-length c.args.old.now, edges-length c.args.added.now)

pub returns-then-neighbours-edges : goal.returns-then-neighbours-edges
unfolding index_refusal vertices
returns-then-neighbours-edges c =
    sym
    (pass _ _ (ne_eqb _ _ c.if-starts-eq0.false)
    ∙ pass _ _ (sym c.bad_count.ensures ∙ c.if-bad_count.false)
    ∙ pass _ _ (sym c.not_whole.ensures ∙ c.if-not_whole.false)
    ∙ pass _ _ (sym c.not_whole-2.ensures ∙ c.if-not_whole-2.false)
    ∙ stop _ _ (wrong-length _ _ (λ e. c.if-neighbours-edges.true (omega (arith, e, both-length c.args.old.now c.args.added.now c.count.ensures c.count-2.ensures)))))

-- the tests of the lengths pass: what is left decides
lengths-pass : (c : Else-neighbours-edges) → index_refusal (index c.args.starts.now c.args.neighbours.now) c.args.old.now c.args.added.now
    ≡ first
    (first_fault (length c.args.starts.now - 1) (ties c.args.old.now ++ ties c.args.added.now)
    ∷ given (ltb max_edges (length (edges c.args.old.now ++ edges c.args.added.now))) 20
    ∷ [])
unfolding index_refusal vertices
lengths-pass c =
    pass _ _ (ne_eqb _ _ c.if-starts-eq0.false)
    ∙ pass _ _ (sym c.bad_count.ensures ∙ c.if-bad_count.false)
    ∙ pass _ _ (sym c.not_whole.ensures ∙ c.if-not_whole.false)
    ∙ pass _ _ (sym c.not_whole-2.ensures ∙ c.if-not_whole-2.false)
    ∙ pass _ _ (right-length _ _ (omega (arith, c.if-neighbours-edges.false, both-length c.args.old.now c.args.added.now c.count.ensures c.count-2.ensures)))

pub returns-in_err-check_ties : goal.returns-in_err-check_ties
unfolding index_refusal vertices
returns-in_err-check_ties c =
    let first_of = fault-first _ _ _ (λ z. number-positive _ (c.in_err-check_ties.ensures ∙ z)) in
    handed-on _ _ c.from_residual.ensures.1
    (c.in_err-check_ties.ensures
    ∙ sym
    (lengths-pass (goal.at.returns-in_err-check_ties c).Else-neighbours-edges
    ∙ first-stop _ _ (λ z. number-positive _ (c.in_err-check_ties.ensures ∙ sym first_of ∙ z))
    ∙ first_of))

pub returns-in_err-check_ties-2 : goal.returns-in_err-check_ties-2
unfolding index_refusal vertices
returns-in_err-check_ties-2 c =
    let second_of = fault-second _ (ties c.args.old.now) (ties c.args.added.now) (sym c.in_ok-check_ties.ensures) in
    handed-on _ _ c.from_residual-in_err-check_ties-2.ensures.1
    (c.in_err-check_ties-2.ensures
    ∙ sym
    (lengths-pass (goal.at.returns-in_err-check_ties-2 c).Else-neighbours-edges
    ∙ first-stop _ _ (λ z. number-positive _ (c.in_err-check_ties-2.ensures ∙ sym second_of ∙ z))
    ∙ second_of))

pub returns-then-edges-gt-MAX_EDGES : goal.returns-then-edges-gt-MAX_EDGES
unfolding index_refusal vertices
returns-then-edges-gt-MAX_EDGES c =
    sym
    (lengths-pass (goal.at.returns-then-edges-gt-MAX_EDGES c).Else-neighbours-edges
    ∙ first-pass _ _ (fault-second _ (ties c.args.old.now) (ties c.args.added.now) (sym c.in_ok-check_ties.ensures) ∙ sym c.in_ok-check_ties-2.ensures)
    ∙ stop _ _ (too-many _ _ c.count.ensures c.count-2.ensures c.if-edges-gt-MAX_EDGES.true))

pub returns : goal.returns
unfolding index_refusal vertices
returns c =
    sym
    (lengths-pass (goal.at.returns c).Else-neighbours-edges
    ∙ first-pass _ _ (fault-second _ (ties c.args.old.now) (ties c.args.added.now) (sym c.in_ok-check_ties.ensures) ∙ sym c.in_ok-check_ties-2.ensures)
    ∙ pass _ _ (not-many _ _ c.count.ensures c.count-2.ensures c.if-edges-gt-MAX_EDGES.false)
    ∙ first-end)
