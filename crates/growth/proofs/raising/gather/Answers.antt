use mathlib.Core.Path.{◌∙◌}
use Rattle.game.proofs.Bools.{or-neither}
use Rattle.growth.proofs.Climbs.{upward-at}
use Rattle.growth.proofs.NewParents.{untouched-on}
use Rattle.growth.proofs.Moves.{moves-on}
use Rattle.growth.proofs.Gather.{gather-whole, gather-begun}
use Rattle.growth.proofs.ReadUpTo.{left-alike}
use Rattle.growth.proofs.raising.gather.Goals as goal

pub returns-then-this : goal.returns-then-this
returns-then-this g c =
    let (k, m) = c.climb_all.ensures in
    (record { upward = k.upward; leaves = k.leaves; untouched = k.untouched; gathered = λ E s o. gather-whole k s o }, m)

pub returns : goal.returns
returns g c =
    let (b, l) = c.step_all-lowest.ensures in
    let (k, m) = c.climb_all-2.ensures in
    let same = c.step_all-lowest.auto.parents in (
      record {
        upward = upward-at same k.upward;
        leaves = k.leaves ∙ left-alike _ _ (or-neither _ _ c.if-this.false).0 b.long;
        untouched = untouched-on b.untouched k.untouched;
        gathered = λ E s o. gather-begun same b k s o;
      },
      moves-on l m,
    )
