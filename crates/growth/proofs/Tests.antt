-- How the code's tests say what the definitions of adding and joining ask.
-- Assumes nothing.
use mathlib.Core.Path.{◌≡◌, sym, ap, ◌∙◌}
use mathlib.Core.Bool.{Bool, true, false, ◌||◌}
use Prim.Native.Nat.{ℕ, ◌+◌, ◌≤◌, ◌<◌}
use native.Mathlib.Omega.{arith}
use lib.Dec.{ltb}
use lib.ListN.{length}
use borrow.Author.Tests.{lt-ltb, le-ltb}
use Rattle.game.specs.Net.{Net, total}
use Rattle.refusal.specs.Limits.{max_total}
use Rattle.refusal.specs.Refusal.{wrong_length}
use Rattle.net.specs.Damage.{damaged_by, damaged}
use Rattle.growth.specs.Work.{Work, bad_work}

-- the room that the code asks for, by the tables' lengths
abbrev pub wrong_work : ℕ → ℕ → Work → Bool
wrong_work n m w = wrong_length (length w.ends) n || wrong_length (length w.jump) n || wrong_length (length w.lower) m

-- and by the number of edges that the code has counted
pub work-length : (n : ℕ) (w : Work) {counted m : ℕ} {t : Bool} → counted ≡ m → wrong_work n (n + counted) w ≡ t → bad_work n (n + m) w ≡ t
unfolding bad_work
work-length n w k e = ap (λ (m : ℕ). bad_work n (n + m) w) (sym k) ∙ e

-- damage, by the total that the code has summed
pub damage : (of : Net) {sum : ℕ} {t : Bool} → sum ≡ total of → damaged_by of.parents sum ≡ t → damaged of ≡ t
unfolding damaged
damage of e d = ap (damaged_by of.parents) (sym e) ∙ d

-- a total of two parts, above the limit or within it
module _ {s t a b : ℕ} (e : s ≡ a) (f : t ≡ b) where
  pub over : max_total < s + t → ltb max_total (a + b) ≡ true
  over h = lt-ltb max_total (a + b) (omega arith)

  pub within : s + t ≤ max_total → ltb max_total (a + b) ≡ false
  within h = le-ltb max_total (a + b) (omega arith)
