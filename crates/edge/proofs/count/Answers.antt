use mathlib.Core.Path.{sym}
use Rattle.game.proofs.Edges.{edges-length}
use Rattle.edge.proofs.count.Goals as goal

pub returns : goal.returns
returns c = sym (edges-length _)
