-- A first list: no vertex has a parent yet, and the edges are all there is. And any list, its rows charged to the weights.
-- Assumes nothing.
use mathlib.Core.Path.{◌≡◌, sym, ap, ◌∙◌}
use mathlib.Core.Logic.{by_cases}
use mathlib.Core.List.{List, ◌++◌, zip_with}
use Prim.Native.Nat.{ℕ, ◌+◌, ◌*◌, ◌^◌, ◌<◌}
use native.Mathlib.Decide.{dec_lt}
use native.Mathlib.Omega.{arith}
use lib.ListN.{length, get_or, replicate, get_or-eq_default}
use Rattle.game.specs.Edge.{Edge, ties}
use Rattle.game.specs.Game.{absent, forest}
use Rattle.game.specs.Tree.{links}
use Rattle.game.specs.Net.{weights as weights_of}
use Rattle.game.proofs.Links.{links-none}
use Rattle.game.proofs.Weights.{weight-le, weights-length, weights-entry}
use Rattle.refusal.specs.Limits.{max_rows}
use Rattle.refusal.specs.Refusal.{first_fault}
use Rattle.refusal.proofs.Fault.{charges-most}
use Rattle.bucket.specs.Ends.{weighed}
use Rattle.insert.specs.Extending.{Extendable, Weighable, Counted}

-- without old links the edges are all there is
pub first-links : (E : List Edge) {n : ℕ} {p : List ℕ} → p ≡ replicate (length p) absent → n ≡ length p → forest n E ≡ forest (length p) (links p ++ E)
first-links E {n} {p} b e =
    ap (λ (m : ℕ). forest m E) e ∙ ap (λ (es : List Edge). forest (length p) (es ++ E)) (sym (ap links b ∙ links-none (length p)))

-- the weights can take the rows of a list that can be taken in: it has no fault for them
pub list-weighs : {p xs ends jump weights lower : List ℕ} → Extendable p xs ends jump lower → Weighable p weights xs
    → (first_fault (length weights) (ties xs) ≡ 0) × ((v : ℕ) → get_or weights v 0 + max_rows * length (ties xs) < 2 ^ 32)
list-weighs e w = (rw w.long e.faultless, w.light)

-- rows that were charged to a table of their own are added to the weights
module _ {p xs ends jump lower weights : List ℕ} (e : Extendable p xs ends jump lower) (w : Weighable p weights xs) (c : Counted p xs ends jump) where
  pub charged-long : length weights ≡ length jump
  charged-long = w.long ∙ sym (ap length c.charged ∙ weights-length (length p) (ties xs))

  pub charged-room : (v : ℕ) → get_or weights v 0 + get_or jump v 0 < 2 ^ 32
  charged-room v =
      by_cases (dec_lt v (length p))
      (λ (h : v < length p). omega (arith, w.light v, ap (λ (t : List ℕ). get_or t v 0) c.charged, weights-entry (length p) (ties xs) h, weight-le (ties xs) v, charges-most (length p) (ties xs) e.faultless))
      (λ (h : v < length p → ⊥). omega (arith, w.light v, get_or-eq_default jump 0 {n = v} (omega (arith, charged-long, w.long))))

  pub charged-weighs : zip_with ◌+◌ weights jump ≡ weighed (ties xs) weights
  charged-weighs = ap (zip_with ◌+◌ weights) (c.charged ∙ ap (λ (n : ℕ). weights_of n (ties xs)) (sym w.long))
