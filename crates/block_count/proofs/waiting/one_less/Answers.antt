use mathlib.Core.Path.{◌≡◌, refl, ap, ◌∙◌}
use mathlib.Core.Bool.{Bool, true, false}
use Prim.Native.Nat.{ℕ, ◌-◌}
use mir.Val.{bool_byte}
use Rattle.game.specs.Table.{one_if}
use Rattle.block_count.proofs.waiting.one_less.Goals as goal

byte : (b : Bool) → bool_byte b ≡ one_if b
unfolding one_if
byte true = refl
byte false = refl

pub returns : goal.returns
returns c = c.saturating_sub.ensures ∙ ap (λ (v : ℕ). c.args.number - v) (c.from.ensures ∙ byte c.args.flag)
