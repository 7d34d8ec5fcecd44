use mathlib.Core.Path.{◌≡◌, refl, ap, ◌∙◌}
use mathlib.Core.Bool.{Bool, ◌||◌}
use mathlib.Core.List.{List, [], ◌∷◌}
use Prim.Native.Nat.{ℕ}
use Rattle.std.proofs.Common.{rules, tests, ltb}
use Rattle.std.specs.List.{list_any}
use Rattle.std.proofs.lemmas.Iterator.{YieldsList-from_slice}
use Rattle.std.proofs.lemmas.Iterator.Search.{any_from_yields_List}
use Rattle.game.specs.Table.{some_entry}
use Rattle.refusal.specs.DivisionLimits.{too_heavy}
use Rattle.refusal.proofs.limits.too_heavy.Goals as goal

any-some_entry : (t : ℕ → Bool) (xs : List ℕ) → list_any t xs ≡ some_entry t xs
unfolding some_entry
any-some_entry t [] = refl
any-some_entry t (x ∷ xs) = ap (λ (b : Bool). t x || b) (any-some_entry t xs)

pub returns : goal.returns
unfolding too_heavy
returns c =
    let xs = c.args.weights.now in
    any_from_yields_List (ltb c.args.limit) _ _ _ c.any.ensures.ran (YieldsList-from_slice xs cc) (λ x b q k. search (rules, tests)) ∙ any-some_entry (ltb c.args.limit) xs
