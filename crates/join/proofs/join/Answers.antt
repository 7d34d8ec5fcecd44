use native.Mathlib.Omega.{arith}
use mathlib.Core.Path.{refl, sym, ◌∙◌}
use Rattle.game.proofs.Sound.{true-sound}
use Rattle.game.proofs.Tables.{sum-entry}
use Rattle.refusal.specs.Numbers.{verdict}
use Rattle.refusal.proofs.Ends.{ends-accepted}
use Rattle.refusal.proofs.Numbers.{ends-handed}
use Rattle.join.specs.Join.{join_outcome}
use Rattle.join_refusal.proofs.Accepted.{joinable}
use Rattle.join.proofs.Outcomes.{join-ends, join-moved}
use Rattle.growth.proofs.Regrown.{filed-growable}
use Rattle.join.proofs.join.Goals as goal

pub returns-in_err-join_refusal : goal.returns-in_err-join_refusal
unfolding join_outcome
returns-in_err-join_refusal c = ends-handed _ _ _ _ _ _ c.from_residual.ensures.1 c.in_err-join_refusal.ensures refl

pub add_all-requires : goal.add_all-requires
add_all-requires c =
    let a = joinable _ _ (sym c.in_ok-join_refusal.ensures) in
    (a.net.long ∙ sym (a.second.long ∙ a.same), λ v. omega (arith, sum-entry c.args.weights.now v, sum-entry c.args.other_weights.now v, a.light))

pub file_links-requires : goal.file_links-requires
file_links-requires c =
    let a = joinable _ _ (sym c.in_ok-join_refusal.ensures) in
    record {
      ends_len = a.work.ends;
      second_len = a.same;
      first_len_bound = a.net.few;
      first_value = true-sound a.net.sound;
      second_value = true-sound a.second.sound;
      lower_len = a.work.lower;
    }

pub grow-lowest-requires : goal.grow-lowest-requires
grow-lowest-requires c =
    let a = joinable _ _ (sym c.in_ok-join_refusal.ensures) in
    filed-growable c.file_links.ensures a.net.few refl a.work.jump

pub returns : goal.returns
unfolding verdict join_outcome
returns c =
    let z = sym c.in_ok-join_refusal.ensures in
    let a = joinable _ _ z in
    let (g, d) = c.grow-lowest.ensures in
    ends-accepted _ _ _ _ (join-moved a c.file_links.ensures g d c.moved_at.ensures) z
    (join-ends a c.file_links.ensures g c.add_all.ensures c.file_links.auto.ends c.file_links.auto.lower)
