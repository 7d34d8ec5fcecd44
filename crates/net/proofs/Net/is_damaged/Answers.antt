use mathlib.Core.Path.{sym, ◌∙◌}
use Rattle.net.specs.Damage.{damaged_by}
use Rattle.net.proofs.Net.is_damaged.Goals as goal

pub returns-then-is_sound : goal.returns-then-is_sound
unfolding damaged_by
returns-then-is_sound c = simp (sym c.is_sound.ensures ∙ c.if-is_sound.true)

pub returns-else-is_sound : goal.returns-else-is_sound
unfolding damaged_by
returns-else-is_sound c = simp (sym c.is_sound.ensures ∙ c.if-is_sound.false)
