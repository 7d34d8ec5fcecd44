-- The call that lists what lies between two vertices: what it refuses, what it writes and what it answers.
--
-- Document 02, Paper 5: "For two ranks of which neither is above the other, list the marks above both, lowest first, given the net's own
-- ties. The list goes to the front of a table of n ranks, the rest of which is unchanged, and its length is answered. Here and in later
-- papers a call given the net's own ties is lent comparison tables and treats them and the tie list as Report does. .. A rank of n or more
-- is 4, before any tie is looked at. (New: 31, the two ranks are equal or one is above the other; it comes after 23.)" Refusals, in order:
-- 1, 2, 30, 4 of a rank, 4, 5 or 32, 20, 23, 31. As in Report, 23 and 31, which comes after it, leave the comparison tables holding the net
-- of the ties, and the work tables cleared; every other refusal leaves every table as it was.
-- Assumes nothing.
use Rattle.std.specs.Prelude.{Bool, ◌||◌, List, [], ◌∷◌, ℕ, length}
use Rattle.game.specs.Edge.{Tie, ties, edges}
use Rattle.game.specs.Net.{Net, net_of}
use Rattle.refusal.specs.Refusal.{given, first, unless, wrong_length, not_whole}
use Rattle.refusal.specs.Verdict.{judged}
use Rattle.refusal.specs.Outcome.{Outcome, ended}
use Rattle.growth.specs.Work.{Work, cleared}
use Rattle.compare.specs.Compare.{wrong_compared, unlike}
use Rattle.ancestry.specs.Common.{common_ancestors, related, at_front}
use Rattle.ancestry.specs.declared.Separator.{Separator}
use Rattle.ancestry.specs.Answer.{separator_of}
use Rattle.separate.specs.Refused.{separate_early}

-- every table that the call is lent to write: the list's, the comparison tables, and the work tables
pub record SeparateTables : Type 0 where
  pub listed : List ℕ
  pub compared : Net
  pub work : Work

abbrev pub separate_tables : List ℕ → Net → Work → SeparateTables
separate_tables l c o = record { listed = l; compared = c; work = o }

-- 2: "a table of the wrong length for the call", or a list that is not whole ties
unfoldable pub wrong_separate : Net → List ℕ → SeparateTables → Bool
wrong_separate of xs was =
    let n : ℕ = length of.parents in
    wrong_length (length of.weights) n || wrong_length (length was.listed) n || wrong_compared n (length (edges xs)) was.compared was.work || not_whole xs

-- what is decided once the ties' net is grown, or 0
unfoldable pub grown_refusal : Net → (a b : ℕ) → List Tie → ℕ
grown_refusal of a b ts = first (unlike of ts ∷ given (related of.parents a b) 31 ∷ [])

-- the number for which the call is refused, or 0
unfoldable pub separate_refusal : Net → (a b : ℕ) → List ℕ → SeparateTables → ℕ
separate_refusal of a b xs was = first (separate_early of a b xs (wrong_separate of xs was) ∷ grown_refusal of a b (ties xs) ∷ [])

unfoldable pub separate_outcome : Net → (a b : ℕ) → List ℕ → SeparateTables → Outcome Separator SeparateTables
separate_outcome of a b xs was =
    let ts : List Tie = ties xs in
    let ys : List ℕ = common_ancestors of.parents a b in
    ended
    (judged (separate_refusal of a b xs was) (separator_of ys))
    (unless (separate_early of a b xs (wrong_separate of xs was)) was
    (separate_tables (unless (grown_refusal of a b ts) was.listed (at_front ys was.listed)) (net_of (length of.parents) ts) (cleared was.work)))
