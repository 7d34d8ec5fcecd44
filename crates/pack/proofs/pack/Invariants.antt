use mathlib.Core.Path.{◌≡◌}
use lib.ListN.{length}
use Rattle.pack.specs.Lightest.{lightest}
use Rattle.pack.specs.TournamentSteps.{Tournament}
use Rattle.pack.proofs.Blocks.{Packs}
use Rattle.pack.proofs.pack.Given as goal

abbrev pub invariant-loop-x : goal.invariant-loop-x
invariant-loop-x l = Packs l.top l.carried (length l.initial.loads) l.x l.block l.loads × Tournament l.loads l.nodes × (l.best ≡ lightest l.loads)
