-- Parents that fall while edges are put in: the lowest that has, step by step.
-- Assumes nothing.
use mathlib.Core.List.{List}
use Prim.Native.Nat.{ℕ, ◌<◌, min}
use lib.ListN.{length, get_or, set}
use Rattle.game.specs.Game.{absent}
use Rattle.moved.specs.Steps.{Fallen}
use Rattle.moved.proofs.Fallen.{fallen-none, fallen-set}
use Rattle.insert.specs.Putting.{Lowers}

pub lowers-none : (p : List ℕ) (m : ℕ) → Lowers p m p m
lowers-none p m = record { fallen = λ was f. f }

pub lowers-on : {p q r : List ℕ} {k l m : ℕ} → Lowers p k q l → Lowers q l r m → Lowers p k r m
lowers-on a b = record { fallen = λ was f. b.fallen was (a.fallen was f) }

pub lowers-set : (p : List ℕ) (m w y : ℕ) → w < length p → y < get_or p w absent → Lowers p m (set p w y) (min m w)
lowers-set p m w y inside low = record { fallen = λ was f. fallen-set w y f inside low }

-- from a table on whose parents nothing has fallen
pub lowers-fallen : {p q : List ℕ} {m : ℕ} → Lowers p absent q m → Fallen p q m
lowers-fallen {p} l = l.fallen p (fallen-none p)
