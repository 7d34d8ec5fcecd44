-- Relabelled lists: they have no fault where the list had none, and they are what an accepted call ends with.
-- Assumes nothing.
use mathlib.Core.Path.{◌≡◌, refl, ap, ap₂, ◌∙◌}
use mathlib.Core.Bool.{false}
use mathlib.Core.List.{List, [], ◌∷◌}
use Prim.Native.Nat.{ℕ, suc, ◌%◌, ◌<◌}
use lib.ListN.{length, get_or}
use Rattle.game.specs.Edge.{◌─◌, tie_of, ties}
use Rattle.game.specs.Table.{tabulate}
use Rattle.game.proofs.Tables.{tabulate-length, tabulate-entry}
use Rattle.refusal.specs.Refusal.{first_fault}
use Rattle.refusal.specs.Verdict.{accepted}
use Rattle.refusal.specs.Outcome.{ended}
use Rattle.refusal.proofs.Fault.{faultless, faultless-cons, fault-none, first-fault-on}
use Rattle.refusal.proofs.Ends.{ends-accepted}
use Rattle.order.specs.Order.{bad_order, rank_of, inverse_of}
use Rattle.relabel.specs.Relabel.{relabelled, relabel_tables, relabel_refusal, relabel_outcome}
use Rattle.relabel.specs.Steps.{looked_up, LookUp}
use Rattle.order.proofs.Rank.{rank_below, rank-injective}
use Rattle.relabel.proofs.Accepted.{relabel-known}

pub relabelled-length : (order xs : List ℕ) → length (relabelled order xs) ≡ length xs
unfolding relabelled
relabelled-length order [] = refl
relabelled-length order (a ∷ []) = refl
relabelled-length order (a ∷ b ∷ []) = refl
relabelled-length order (a ∷ b ∷ r ∷ xs) = ap (λ (k : ℕ). suc (suc (suc k))) (relabelled-length order xs)

-- by an order without a bad entry, a list without a fault becomes a list without a fault
pub relabelled-faultless : (order : List ℕ) → bad_order order ≡ false → (xs : List ℕ) → first_fault (length order) (ties xs) ≡ 0 → first_fault (length order) (ties (relabelled order xs)) ≡ 0
unfolding relabelled ties first_fault
relabelled-faultless order good [] f = refl
relabelled-faultless order good (a ∷ []) f = refl
relabelled-faultless order good (a ∷ b ∷ []) f = refl
relabelled-faultless order good (a ∷ b ∷ r ∷ xs) f =
    let p = faultless-cons (length order) (tie_of (a ─ b) r) (ties xs) f in
    let q = faultless (length order) a b r p.0 in
    first-fault-on (length order) (tie_of (rank_of order a ─ rank_of order b) r) (ties (relabelled order xs))
    (fault-none (length order) (rank_of order a) (rank_of order b) r (rank_below order good a q.0) (rank_below order good b q.1) (λ e. q.2 (rank-injective order good a b q.0 q.1 e)) q.3 q.4)
    ∙ relabelled-faultless order good xs p.1

-- looked up in the inverse of an order, the ends of ties become ranks
inverse-relabels : (order xs : List ℕ) → first_fault (length order) (ties xs) ≡ 0 → looked_up (inverse_of order) xs ≡ relabelled order xs
unfolding looked_up inverse_of relabelled ties
inverse-relabels order [] f = refl
inverse-relabels order (a ∷ []) f = refl
inverse-relabels order (a ∷ b ∷ []) f = refl
inverse-relabels order (a ∷ b ∷ r ∷ xs) f =
    let p = faultless-cons (length order) (tie_of (a ─ b) r) (ties xs) f in
    let q = faultless (length order) a b r p.0 in
    ap₂ ◌∷◌ (rank a q.0) (ap₂ ◌∷◌ (rank b q.1) (ap (λ (ys : List ℕ). r ∷ ys) (inverse-relabels order xs p.1)))
  where
    rank : (v : ℕ) → v < length order → get_or (tabulate (length order) (rank_of order)) v 0 ≡ rank_of order v
    rank v h = tabulate-entry (length order) (rank_of order) v 0 h

-- the inverse of an order has an entry for every vertex
pub inverse-look-up : (order xs out : List ℕ) {inverse : List ℕ} → inverse ≡ inverse_of order → length xs % 3 ≡ 0 → first_fault (length order) (ties xs) ≡ 0 → length out ≡ length xs → LookUp inverse xs out
unfolding inverse_of
inverse-look-up order xs out e all f room =
    record { all = all; faultless = ap (λ (n : ℕ). first_fault n (ties xs)) (ap length e ∙ tabulate-length (length order) (rank_of order)) ∙ f; room = room }

-- an accepted call ends with the list in ranks, and with the order's inverse
pub relabel-accepted : (order xs out inverse : List ℕ) {out' inverse' : List ℕ} → relabel_refusal order xs (length out) (length inverse) ≡ 0 → inverse' ≡ inverse_of order → out' ≡ looked_up inverse' xs
    → ended (accepted tt) (relabel_tables out' inverse') ≡ relabel_outcome order xs (relabel_tables out inverse)
unfolding relabel_outcome
relabel-accepted order xs out inverse e i o =
    let known = relabel-known order xs (length out) (length inverse) e in
    ends-accepted _ _ _ _ refl e
    (ap₂ relabel_tables (o ∙ ap (λ (t : List ℕ). looked_up t xs) i ∙ inverse-relabels order xs known.faultless) i)
