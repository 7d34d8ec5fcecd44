-- Refusals by document 01's numbers, and what the code answers as a verdict.
-- Assumes nothing.
use Rattle.std.specs.Prelude.{ℕ, Result, Ok, Err}
use Rattle.refusal.specs.Verdict.{Verdict, accepted, refused}
use Rattle.refusal.specs.declared.kinds.Refusal.{Refusal}
use Rattle.refusal.specs.declared.kinds.Refusal.TheVariants.{BadCount, WrongLength, BadOrder, BadVertex, Loop, BadFile, BadParent, BadLimit, Full, UnlikeCounts, TooHeavy, OtherEdges, Damaged, Related, BadRows}

-- document 01's number of each, and document 02's
abbrev pub number_of : Refusal → ℕ
number_of BadCount = 1
number_of WrongLength = 2
number_of BadOrder = 3
number_of BadVertex = 4
number_of Loop = 5
number_of BadFile = 6
number_of BadParent = 7
number_of BadLimit = 8
number_of Full = 20
number_of UnlikeCounts = 21
number_of TooHeavy = 22
number_of OtherEdges = 23
number_of Damaged = 30
number_of Related = 31
number_of BadRows = 32

-- the number that a test came to: 0, if it does not apply
abbrev pub code : {X : Type 0} → Result X Refusal → ℕ
code (Ok values) = 0
code (Err r) = number_of r

-- a call's answer as a verdict
unfoldable pub verdict : {X : Type 0} → Result X Refusal → Verdict X
verdict (Ok values) = accepted values
verdict (Err r) = refused (number_of r)
