use mathlib.Core.Path.{sym, ap, ◌∙◌}
use mathlib.Core.Bool.{Bool, ◌&&◌}
use Rattle.compare.specs.Likeness.{same_net, same_table}
use Rattle.compare.proofs.Sameness.{pointwise_same}
use Rattle.compare.proofs.likeness.same_net.Goals as goal

pub returns-then-eq : goal.returns-then-eq
unfolding same_net
returns-then-eq c =
    c.eq-then-eq.ensures
    ∙ pointwise_same _ _
    ∙ ap (λ (b : Bool). b && same_table c.args.weights.now c.args.other_weights.now) (sym c.if-eq.true ∙ c.eq.ensures ∙ pointwise_same _ _)

pub returns-else-eq : goal.returns-else-eq
unfolding same_net
returns-else-eq c =
    c.if-eq.false ∙ ap (λ (b : Bool). b && same_table c.args.weights.now c.args.other_weights.now) (sym c.if-eq.false ∙ c.eq.ensures ∙ pointwise_same _ _)
