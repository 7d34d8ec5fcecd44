use mathlib.Core.Path.{refl}
use Rattle.share.specs.Share.{even_share}
use Rattle.share.proofs.Share.of.Goals as goal

pub returns : goal.returns
unfolding even_share
returns c = refl
