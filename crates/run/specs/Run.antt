-- The net of a run, and what a run is refused for.
--
-- Document 01: "For the order of refusals below a run counts as one call." First come those of the files. 21, 30, 7, 20 and 23 cannot
-- arise: the net is made in the run, of at most 4,000 ties, and it is reported on with its own ties. So 22 is left.
-- Assumes nothing.
use Rattle.std.specs.Prelude.{List, [], ◌∷◌, ℕ}
use Rattle.game.specs.Edge.{Tie, ties}
use Rattle.game.specs.Net.{Net, net_of}
use Rattle.refusal.specs.Refusal.{given, first}
use Rattle.relabel.specs.Relabel.{relabelled}
use Rattle.refusal.specs.DivisionLimits.{too_heavy}
use Rattle.files.specs.Files.{Files, vertex_count, order, edge_list, limit}
use Rattle.files.specs.Refused.{file_refusal}

-- the ties by rank, and their net
unfoldable pub ranked_ties : Files → List Tie
ranked_ties f = ties (relabelled (order f) (edge_list f))

unfoldable pub run_net : Files → Net
run_net f = net_of (vertex_count f) (ranked_ties f)

-- the number for which a run is refused, or 0
unfoldable pub run_refusal : Files → ℕ
run_refusal f = first (file_refusal f ∷ given (too_heavy (limit f) (run_net f).weights) 22 ∷ [])
