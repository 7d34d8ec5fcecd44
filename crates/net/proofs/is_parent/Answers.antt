use mathlib.Core.Path.{refl}
use Rattle.game.specs.Tree.{sound_parent}
use Rattle.net.proofs.is_parent.Goals as goal

pub returns : goal.returns
unfolding sound_parent
returns c = refl
