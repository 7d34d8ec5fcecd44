-- Lists that rise, tie by tie; and what that says of their faults.
-- Assumes nothing.
use Rattle.std.specs.Prelude.{max}
use mathlib.Core.Path.{◌≡◌, refl, sym, subst, ◌∙◌}
use mathlib.Core.Bool.{true, false, ◌||◌}
use mathlib.Core.List.{List, [], ◌∷◌}
use Prim.Native.Nat.{ℕ}
use native.Mathlib.Omega.{arith}
use lib.Dec.{eqb, leb, ltb}
use borrow.Author.Tests.{ltb-false}
use Rattle.game.specs.Edge.{◌─◌, Tie, tie_of}
use Rattle.game.proofs.Bools.{or-neither}
use Rattle.refusal.specs.Limits.{max_rows, outside}
use Rattle.refusal.specs.Refusal.{first_fault}
use Rattle.refusal.proofs.Fault.{first-fault-on}
use Rattle.bucket.specs.Ends.{end_of}
use Rattle.bucket.proofs.Ends.{upper-max}
use Rattle.bucket.proofs.Sweeping.{upper-faultless}
use Rattle.rising.specs.Rising.{Rises, stop, rise}

pub rises-faultless : {n last : ℕ} {ts : List Tie} → Rises n last ts → first_fault n ts ≡ 0
unfolding first_fault
rises-faultless stop = refl
rises-faultless {n} (rise {t = t} {ts = ts} f l r) = first-fault-on n t ts f ∙ rises-faultless r

-- what is left of a list rises: nothing, or a tie without a fault and what is behind it
pub rises-nothing : {n last : ℕ} {left : List Tie} → left ≡ [] → Rises n last left
rises-nothing {n} {last} e = subst (Rises n last) (sym e) stop

pub rises-tie : {n last a b rows end : ℕ} {left next : List Tie} → left ≡ tie_of (a ─ b) rows ∷ next → end ≡ max a b
    → ((leb n end || eqb a b || outside max_rows rows) || ltb end last) ≡ false → Rises n end next → Rises n last left
rises-tie {n} {last} {a} {b} {rows} {end} {next = next} here q t r =
    let (k, l) = or-neither (leb n end || eqb a b || outside max_rows rows) (ltb end last) t in
    let top : end ≡ end_of true (a ─ b) = q ∙ sym (upper-max a b) in
    subst (Rises n last) (sym here)
    (rise (upper-faultless n a b rows q k).1 (omega (arith, ltb-false end last l, top)) (subst (λ (y : ℕ). Rises n y next) top r))
