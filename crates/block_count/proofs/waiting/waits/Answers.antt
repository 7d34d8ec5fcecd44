use mathlib.Core.Path.{◌≡◌, refl, ◌∙◌}
use mathlib.Core.Bool.{Bool, true, false, not, cond}
use mir.Val.{bool_byte}
use lib.Dec.{eqb}
use Rattle.block_count.specs.WaitingSteps.{waiting}
use Rattle.block_count.proofs.waiting.waits.Goals as goal

byte : (b : Bool) → bool_byte (not b) ≡ cond b 0 1
byte true = refl
byte false = refl

pub returns : goal.returns
unfolding waiting
returns c = c.from.ensures ∙ byte (eqb c.args.pending 0)
