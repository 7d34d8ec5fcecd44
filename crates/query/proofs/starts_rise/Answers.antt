use native.Mathlib.Omega.{arith}
use mathlib.Core.Path.{◌≡◌, ap}
use Prim.Native.Nat.{ℕ, ◌-◌}
use lib.ListN.{length, get_or}
use Rattle.query.proofs.Rising.{scan-start, scan-turn, scan-end}
use Rattle.query.proofs.starts_rise.Goals as goal

pub loop-i-init : goal.loop-i-init
loop-i-init c = scan-start _ _ c.requires

pub loop-i-preserved : goal.loop-i-preserved
loop-i-preserved c = scan-turn c.loop-i.invariant (omega arith)

pub returns : goal.returns
returns c =
    let e : length c.args.starts.now - 1 ≡ c.loop-i.i = omega (arith, c.loop-i.invariant.inside) in
    scan-end c.loop-i.invariant (omega arith) (ap (λ (k : ℕ). get_or c.args.starts.now k 0) e)
