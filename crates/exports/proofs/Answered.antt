-- A call's outcome with its verdict handed on as a number.
-- Assumes nothing.
use mathlib.Core.Path.{◌≡◌, ◌∙◌, ap, ap₂, refl}
use Prim.Native.Nat.{ℕ}
use Rattle.std.specs.Prelude.{Result}
use Rattle.refusal.specs.declared.kinds.Refusal.{Refusal}
use Rattle.refusal.specs.Verdict.{Verdict, number}
use Rattle.refusal.specs.Numbers.{number_of, verdict}
use Rattle.refusal.specs.Outcome.{Outcome, Done, ended}
use Rattle.cells.specs.Returned.{returned, handed, filled_cells, told, handed_cells}
use Rattle.cells.specs.Taken.{verdict_by}
use Rattle.cells.proofs.Taken.{verdict-taken}

pub handed-as : {A : Type 0} {k : ℕ} {v : Verdict (Unit {0})} {t : A} {o : Done A} → k ≡ number v → ended v t ≡ o → returned k t ≡ handed o
unfolding handed
handed-as e h = ap₂ returned e refl ∙ ap handed h

-- the same with the cells filled by its values
pub filled-as : {X C A : Type 0} (hold : X → C) (was : C) {k : ℕ} {c : C} {v : Verdict X} {t : A} {o : Outcome X A} → k ≡ number v → c ≡ told hold v was → ended v t ≡ o → filled_cells k c t ≡ handed_cells hold was o
unfolding handed_cells
filled-as hold was {v = v} {t = t} e f h = ap₂ (λ k c. filled_cells k c t) e f ∙ ap (handed_cells hold was) h

-- both of a call's own answer, as `cells` takes it
pub handed-own : {A : Type 0} {k : ℕ} {t : A} {o : Done A} (answer : Result (Unit {0}) Refusal) → k ≡ number (verdict_by number_of answer) → ended (verdict answer) t ≡ o
    → returned k t ≡ handed o
handed-own answer e h = handed-as (e ∙ ap number (verdict-taken answer)) h

pub filled-own : {X C A : Type 0} (hold : X → C) (was : C) {k : ℕ} {c : C} {t : A} {o : Outcome X A} (answer : Result X Refusal)
    → k ≡ number (verdict_by number_of answer) → c ≡ told hold (verdict_by number_of answer) was → ended (verdict answer) t ≡ o → filled_cells k c t ≡ handed_cells hold was o
filled-own hold was answer e f h = filled-as hold was (e ∙ ap number (verdict-taken answer)) (f ∙ ap (λ (v : Verdict _). told hold v was) (verdict-taken answer)) h
