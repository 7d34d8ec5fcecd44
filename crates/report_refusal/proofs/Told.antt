-- What the code's tests of lengths say, as what the steps promise.
-- Assumes nothing.
use mathlib.Core.Path.{◌≡◌, refl}
use mathlib.Core.Bool.{Bool, ◌||◌}
use mathlib.Core.List.{List}
use Prim.Native.Nat.{ℕ, ◌+◌}
use lib.ListN.{length}
use Rattle.game.specs.Edge.{edges}
use Rattle.refusal.specs.Refusal.{wrong_length, not_whole}
use Rattle.report_refusal.specs.Steps.{wrong_lengths}

pub wrong-told : (p w xs : List ℕ) (c t b l eb re bc ta cp cw e j lo k : ℕ) {m : ℕ} {d f o v : Bool} → m ≡ length (edges xs)
    → d ≡ (wrong_length (length w) (length p) || wrong_length c (length p) || wrong_length t (length p) || wrong_length b (length p) || wrong_length l k)
    → f ≡ (wrong_length eb m || wrong_length re (length p) || wrong_length bc (length p) || wrong_length ta (length p))
    → o ≡ (wrong_length cp (length p) || wrong_length cw (length p) || (wrong_length e (length p) || wrong_length j (length p) || wrong_length lo (length p + m)))
    → v ≡ not_whole xs
    → (d || f || o || v) ≡ wrong_lengths k p w xs c t b l eb re bc ta cp cw e j lo
unfolding wrong_lengths
wrong-told p w xs c t b l eb re bc ta cp cw e j lo k n x y z u = rw (x, y, z, u, n) refl
