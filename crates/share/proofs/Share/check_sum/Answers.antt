use mathlib.Core.Path.{ap₂}
use Prim.Native.Nat.{◌+◌, ◌*◌}
use Rattle.share.specs.Share.{check_sum}
use Rattle.share.proofs.Share.check_sum.Goals as goal

pub returns : goal.returns
unfolding check_sum
returns c = ap₂ ◌+◌ (ap₂ ◌*◌ c.from.ensures c.from-2.ensures) c.from-3.ensures
