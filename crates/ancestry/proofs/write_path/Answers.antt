use native.Mathlib.Omega.{arith}
use Rattle.ancestry.proofs.Written.{write-room, write-less, write-start, write-on, write-end}
use Rattle.ancestry.proofs.write_path.Goals as goal

pub loop-x-init : goal.loop-x-init
loop-x-init c = (c.requires.0, c.requires.1, write-start c.requires.0 c.requires.1 c.requires.2 (omega arith))

pub bounds-table-count : goal.bounds-table-count
bounds-table-count c = write-room c.loop-x.invariant.0 c.loop-x.invariant.1 c.loop-x.invariant.2 c.loop-x-test.true

pub bounds-parents-x : goal.bounds-parents-x
bounds-parents-x c = c.loop-x.invariant.2.inside c.loop-x-test.true

pub loop-x-smaller : goal.loop-x-smaller
loop-x-smaller c =
    write-less c.loop-x.invariant.0 c.loop-x.invariant.1 c.loop-x.invariant.2 c.loop-x-test.true

pub loop-x-preserved : goal.loop-x-preserved
loop-x-preserved c =
    (c.loop-x.invariant.0, c.loop-x.invariant.1, write-on c.loop-x.invariant.0 c.loop-x.invariant.1 c.loop-x.invariant.2 c.loop-x-test.true)

pub returns : goal.returns
returns c = write-end c.loop-x.invariant.0 c.loop-x.invariant.1 c.loop-x.invariant.2 c.loop-x-test.false
