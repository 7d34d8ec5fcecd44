-- What a refusal is in a few words.
-- Assumes nothing.
use Rattle.std.specs.Prelude.{ℕ, List, codes}
use Rattle.refusal.specs.declared.kinds.Refusal.{Refusal}
use Rattle.refusal.specs.declared.kinds.Refusal.TheVariants.{BadCount, WrongLength, BadOrder, BadVertex, Loop, BadFile, BadParent, BadLimit, Full, UnlikeCounts, TooHeavy, OtherEdges, Damaged, Related, BadRows}

abbrev pub text_of : Refusal → List ℕ
text_of BadCount = codes "no vertex, or more than 1,000,000"
text_of WrongLength = codes "a table of the wrong length, or an edge list that is not whole edges"
text_of BadOrder = codes "an entry of the order is out of range or repeats"
text_of BadVertex = codes "an edge or a query names a vertex out of range"
text_of Loop = codes "both ends of an edge are one vertex"
text_of BadFile = codes "not whole records, or not as many as the net has vertices"
text_of BadParent = codes "a record's parent is neither absent nor above its vertex"
text_of BadLimit = codes "a limit or a number of blocks out of range"
text_of Full = codes "more than 16,000,000 edges in a list, or 96,000,000 rows in all"
text_of UnlikeCounts = codes "two nets with different numbers of vertices"
text_of TooHeavy = codes "a weight above the limit"
text_of OtherEdges = codes "the edges are not those of the net"
text_of Damaged = codes "a net or an index whose tables are damaged"
text_of Related = codes "the two ranks are equal, or one stands above the other"
text_of BadRows = codes "the rows of an edge are not 1 to 6"
