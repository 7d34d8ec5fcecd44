use Rattle.std.proofs.Common.{rules}
use mathlib.Core.Path.{◌≡◌, sym, ap, ◌∙◌}
use Rattle.game.specs.Net.{Net, net}
use Rattle.game.proofs.Edges.{edges-length}
use Rattle.growth.specs.Work.{work_of}
use Rattle.refusal.specs.Numbers.{verdict}
use Rattle.separate.specs.Refused.{separate_early}
use Rattle.separate.specs.Separate.{SeparateTables, separate_tables, wrong_separate}
use Rattle.separate.proofs.Refused.{wrong-lengths, lengths-right, Ready, ready}
use Rattle.separate.proofs.Outcome.{ends-handed-early, ends-late, ends-listed}
use Rattle.separate.proofs.separate.Goals.{In_ok-separate_early}
use Rattle.separate.proofs.separate.Goals as goal

-- the net, and the tables as they came in
abbrev of : In_ok-separate_early → Net
of c = net c.args.parents.now c.args.weights.now

abbrev was : In_ok-separate_early → SeparateTables
was c =
    separate_tables c.args.separator.now (net c.args.compared_parents.now c.args.compared_weights.now) (work_of c.args.ends.now c.args.jump.now c.args.lower.now)

-- nothing was refused by reading alone
passed : (c : In_ok-separate_early) → separate_early (of c) c.args.one c.args.other c.args.edges.now (wrong_separate (of c) c.args.edges.now (was c)) ≡ 0
passed c =
    sym (c.in_ok-separate_early.ensures ∙ ap (separate_early _ _ _ _) (wrong-lengths _ _ _ _ _ _ _ _ _ c.count.ensures c.wrong_compared.ensures c.not_whole.ensures))

known : (c : In_ok-separate_early) → Ready (of c) c.args.one c.args.other c.args.edges.now (was c)
known c = ready _ _ _ _ _ (passed c)

pub overflow_add-n : goal.overflow_add-n
overflow_add-n c = search (rules, c.count.ensures, edges-length c.args.edges.now)

pub separate_early-requires : goal.separate_early-requires
separate_early-requires c =
    λ h. (lengths-right _ _ _ (sym (wrong-lengths c.args.parents.now c.args.weights.now c.args.edges.now c.args.separator.now
    c.args.compared_parents.now c.args.compared_weights.now c.args.ends.now c.args.jump.now c.args.lower.now c.count.ensures c.wrong_compared.ensures c.not_whole.ensures)
    ∙ h)).weights

pub returns-in_err-separate_early : goal.returns-in_err-separate_early
returns-in_err-separate_early c =
    ends-handed-early _ _ _ _ _ _ _ c.from_residual.ensures.1 c.in_err-separate_early.ensures
    (wrong-lengths _ _ _ _ _ _ _ _ _ c.count.ensures c.wrong_compared.ensures c.not_whole.ensures)

pub is_own-requires : goal.is_own-requires
is_own-requires c = (known (goal.at.is_own-requires c).In_ok-separate_early).tells

pub returns-then-not-is_own : goal.returns-then-not-is_own
unfolding verdict
returns-then-not-is_own c =
    ends-late _ _ _ _ _ (passed (goal.at.returns-then-not-is_own c).In_ok-separate_early) c.is_own.ensures c.if-not-is_own.true

pub list_common-requires : goal.list_common-requires
list_common-requires c =
    let r = known (goal.at.list_common-requires c).In_ok-separate_early in
    (r.walkable, r.one, r.other, r.lengths.listed)

pub returns : goal.returns
returns c =
    ends-listed _ _ _ _ _ (passed (goal.at.returns c).In_ok-separate_early) c.is_own.ensures c.if-not-is_own.false c.list_common.ensures
