use mathlib.Core.Path.{sym, ◌∙◌}
use lib.Seq.{length-take-le}
use Rattle.refusal.proofs.Numbers.{number-positive, handed-on}
use Rattle.files.proofs.Loading.{order-room, edge-room, sized, loaded-not, loaded}
use Rattle.files.proofs.load.Goals as goal

pub returns-in_err-size_refusal : goal.returns-in_err-size_refusal
returns-in_err-size_refusal c =
    let e = handed-on _ _ c.from_residual.ensures.1 c.in_err-size_refusal.ensures in
    loaded-not _ e (λ z. number-positive _ (c.in_err-size_refusal.ensures ∙ sym e ∙ z))

pub slice_bounds-take_files-end : goal.slice_bounds-take_files-end
slice_bounds-take_files-end c = order-room _ _ (sym c.in_ok-size_refusal.ensures) c.requires.0

pub slice_bounds-take_files-end-2 : goal.slice_bounds-take_files-end-2
slice_bounds-take_files-end-2 c = sym (length-take-le _ _ (order-room _ _ (sym c.in_ok-size_refusal.ensures) c.requires.0))

pub slice_bounds-take_files-end-3 : goal.slice_bounds-take_files-end-3
slice_bounds-take_files-end-3 c = edge-room _ _ (sym c.in_ok-size_refusal.ensures) c.requires.1

pub slice_bounds-take_files-end-4 : goal.slice_bounds-take_files-end-4
slice_bounds-take_files-end-4 c =
    sym (length-take-le _ _ (edge-room _ _ (sym c.in_ok-size_refusal.ensures) c.requires.1))

pub take_files-requires : goal.take_files-requires
take_files-requires c =
    sized _ _ _ (sym c.in_ok-size_refusal.ensures) c.requires.0 c.requires.1

pub returns : goal.returns
returns c =
    loaded _ _ _ (sym c.in_ok-size_refusal.ensures)
    (c.take_files.auto.order ∙ length-take-le _ _ (order-room _ _ (sym c.in_ok-size_refusal.ensures) c.requires.0))
    (c.take_files.auto.edges ∙ length-take-le _ _ (edge-room _ _ (sym c.in_ok-size_refusal.ensures) c.requires.1))
    c.take_files.ensures
