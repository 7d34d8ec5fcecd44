use Rattle.refusal.proofs.First.{pass, stop, first-end}
use mathlib.Core.Path.{sym, ◌∙◌}
use borrow.Author.Tests.{eq-eqb, ne_eqb}
use Rattle.refusal.specs.Refusal.{wrong_length}
use Rattle.files.specs.Files.{vertex_count, edge_count}
use Rattle.files.specs.Refused.{too_many, part_record, not_records}
use Rattle.files.specs.Steps.{size_refusal}
use Rattle.files.proofs.size_refusal.Goals as goal

pub returns-then-n-eq0 : goal.returns-then-n-eq0
unfolding size_refusal too_many part_record not_records wrong_length vertex_count edge_count
returns-then-n-eq0 c = sym (stop _ _ (eq-eqb _ 0 c.if-n-eq0.true))

pub returns-then-n-m : goal.returns-then-n-m
unfolding size_refusal too_many part_record not_records wrong_length vertex_count edge_count
returns-then-n-m c = sym (pass _ _ (ne_eqb _ 0 c.if-n-eq0.false) ∙ stop _ _ c.if-n-m.true)

pub returns-then-marks-ties : goal.returns-then-marks-ties
unfolding size_refusal too_many part_record not_records wrong_length vertex_count edge_count
returns-then-marks-ties c = sym (pass _ _ (ne_eqb _ 0 c.if-n-eq0.false) ∙ pass _ _ c.if-n-m.false ∙ stop _ _ c.if-marks-ties.true)

pub returns : goal.returns
unfolding size_refusal too_many part_record not_records wrong_length vertex_count edge_count
returns c = sym (pass _ _ (ne_eqb _ 0 c.if-n-eq0.false) ∙ pass _ _ c.if-n-m.false ∙ pass _ _ c.if-marks-ties.false ∙ first-end)
