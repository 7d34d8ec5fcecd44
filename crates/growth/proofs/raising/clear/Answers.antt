use Rattle.growth.proofs.ReadUpTo.{cleared-out}
use Rattle.growth.proofs.Rooms.{work-cleared}
use Rattle.growth.proofs.raising.clear.Goals as goal

pub returns : goal.returns
returns c =
    work-cleared _ _ _ (c.fill.ensures.after (λ y e. e)) (c.fill-2.ensures.after (λ y e. e)) (cleared-out _ _ c.requires.0 c.requires.1 (c.fill-3.ensures.after (λ y e. e)))
