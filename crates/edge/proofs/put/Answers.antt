use native.Mathlib.Omega.{arith}
use lib.ListN.{length-set}
use Rattle.edge.proofs.put.Goals as goal

-- src/lib.rt:81:5
pub bounds-list-k-2 : goal.bounds-list-k-2
bounds-list-k-2 c = simp length-set (omega (arith, c.requires))
