-- Every edge stands in exactly two runs.
-- Assumes nothing.
use mathlib.Core.Path.{◌≡◌, refl, sym, ap, ◌∙◌}
use mathlib.Core.Logic.{◌≢◌}
use mathlib.Core.List.{List, ◌∷◌, ◌++◌}
use Prim.Native.Nat.{ℕ}
use Rattle.game.specs.Edge.{Edge, ◌─◌}
use Rattle.sorting.proofs.Values.{values-here, values_other, values-append}
use Rattle.arcs.specs.Arc.{◌⟶◌, source, target, arcs}
use Rattle.index.specs.Index.{run}
use Rattle.arcs.proofs.Arcs.{arcs-append}
use Rattle.query.specs.Neighbours.{InTwoRuns}

-- a list behind a list adds its run behind the other's
pub run-append : (es fs : List Edge) (v : ℕ) → run (es ++ fs) v ≡ run es v ++ run fs v
unfolding run
run-append es fs v = rw (arcs-append es fs) (values-append source target (arcs es) (arcs fs) v)

-- an edge goes before the others in the runs of its ends, and in no other
module _ (a b : ℕ) (es : List Edge) where
  run-first : a ≢ b → run ((a ─ b) ∷ es) a ≡ b ∷ run es a
  unfolding run arcs source target
  run-first d =
      values-here source target (a ⟶ b) ((b ⟶ a) ∷ arcs es) a refl
      ∙ ap (λ (us : List ℕ). b ∷ us) (values_other source target (b ⟶ a) (arcs es) a (λ e. d (sym e)))

  run-second : a ≢ b → run ((a ─ b) ∷ es) b ≡ a ∷ run es b
  unfolding run arcs source target
  run-second d =
      values_other source target (a ⟶ b) ((b ⟶ a) ∷ arcs es) b d
      ∙ values-here source target (b ⟶ a) (arcs es) b refl

  run-other : (v : ℕ) → v ≢ a → v ≢ b → run ((a ─ b) ∷ es) v ≡ run es v
  unfolding run arcs source
  run-other v d f =
      values_other source target (a ⟶ b) ((b ⟶ a) ∷ arcs es) v (λ e. d (sym e))
      ∙ values_other source target (b ⟶ a) (arcs es) v (λ e. f (sym e))

pub two_runs : (before : List Edge) (a b : ℕ) (behind : List Edge) → a ≢ b → InTwoRuns before a b behind
two_runs before a b behind d =
    record {
      first = run-append before ((a ─ b) ∷ behind) a ∙ ap (λ (us : List ℕ). run before a ++ us) (run-first a b behind d);
      second = run-append before ((a ─ b) ∷ behind) b ∙ ap (λ (us : List ℕ). run before b ++ us) (run-second a b behind d);
      no_other = λ v f g. run-append before ((a ─ b) ∷ behind) v ∙ ap (λ (us : List ℕ). run before v ++ us) (run-other a b behind v f g);
    }
