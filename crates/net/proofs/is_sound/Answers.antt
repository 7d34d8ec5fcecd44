use mathlib.Core.Path.{refl}
use Rattle.net.proofs.Scan.{scan-start, scan-on, scan-end}
use Rattle.net.proofs.is_sound.Goals as goal

pub loop-i-init : goal.loop-i-init
loop-i-init c = (refl, scan-start _)

pub loop-i-preserved : goal.loop-i-preserved
loop-i-preserved c =
    (c.loop-i.invariant.0, scan-on c.loop-i.invariant.1 c.loop-i-test.true c.loop-i.invariant.0 refl c.is_parent-sound.ensures)

pub returns : goal.returns
returns c = scan-end c.loop-i.invariant.1 c.loop-i-test.false
