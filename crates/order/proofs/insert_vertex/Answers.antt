use native.Mathlib.Omega.{arith}
use Rattle.order.proofs.Bits.{set-bit-shifted, set-bit-fits}
use Rattle.order.proofs.insert_vertex.Goals as goal

pub overflow_add-set : goal.overflow_add-set
overflow_add-set c = record { fits = set-bit-fits _ _ c.requires.2 c.requires.1 (omega arith) }

pub returns : goal.returns
returns c = set-bit-shifted _ _ c.requires.1
