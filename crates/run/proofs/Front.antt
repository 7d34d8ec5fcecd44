-- The program reads the front of each file only: a run on the fronts prints what a run on the whole files prints.
-- Assumes nothing.
use mathlib.Core.Path.{◌≡◌, refl, sym, ap, ◌∙◌}
use mathlib.Core.Logic.{by_cases}
use native.Mathlib.Decide.{ℕ_discrete}
use Rattle.files.specs.Files.{Files, front}
use Rattle.files.specs.Refused.{file_refusal}
use Rattle.files.proofs.Loading.{sizes-pass}
use Rattle.files.proofs.Front.{front-own, front-refusal}
use Rattle.run.specs.Text.{run_text}
use Rattle.run.proofs.Finished.{refused-text}

pub run-front : (f : Files) → run_text (front f) ≡ run_text f
run-front f =
    by_cases (ℕ_discrete (file_refusal f) 0)
    (λ (z : file_refusal f ≡ 0). ap run_text (front-own f (sizes-pass f z)))
    (λ (d : file_refusal f ≡ 0 → ⊥). sym (refused-text (front f) (sym (front-refusal f)) d) ∙ refused-text f refl d)
