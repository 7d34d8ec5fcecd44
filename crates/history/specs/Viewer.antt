-- A viewer of the nets, over every list of calls. It holds the parents of each net, and after a call it rereads what the answer asks for:
-- after an accepted addition or join the table from the lowest rank that moved on, after an accepted start or reading the whole table, and
-- nothing after a refused call or one that writes no net.
--
-- Document 02, Paper 2: "Our viewer rereads all links after each addition. Let adding and joining answer with the lowest rank whose parent
-- is now another, or with 'none moved' if all are as before."
-- Assumes nothing.
use Rattle.std.specs.Prelude.{cond, List, [], ◌∷◌, ℕ, Option}
use Rattle.refusal.specs.Verdict.{Verdict, accepted, refused}
use Rattle.moved.specs.Followed.{reread}
use Rattle.growth.specs.Work.{with_work}
use Rattle.add.specs.Add.{add_outcome}
use Rattle.join.specs.Join.{join_outcome}
use Rattle.history.specs.World.{World, Call, start, add, join, save, read, relabel, divide, report, index, query, separate, update, Step, step}

-- an old table beside the new one, by what an addition or a join said
unfoldable pub shown : Verdict (Option ℕ) → (old new : List ℕ) → List ℕ
shown (accepted m) old new = reread m old new
shown (refused k) old new = old

-- what is seen of each net after a call
unfoldable pub look : World → (seen : ℕ → List ℕ) → Call → ℕ → List ℕ
look w seen (start i) = let s : Step = step w (start i) in update seen i (cond s.accepted (s.world.nets i).parents (seen i))
look w seen (add i xs work) = update seen i (shown (add_outcome (with_work (w.nets i) work) xs).verdict (seen i) ((step w (add i xs work)).world.nets i).parents)
look w seen (join i j different work) = update seen i (shown (join_outcome (with_work (w.nets i) work) (w.nets j)).verdict (seen i) ((step w (join i j different work)).world.nets i).parents)
look w seen (save i f) = seen
look w seen (read i f) = let s : Step = step w (read i f) in update seen i (cond s.accepted (s.world.nets i).parents (seen i))
look w seen (relabel order xs tables) = seen
look w seen (divide i B k tables) = seen
look w seen (report i B k xs tables) = seen
look w seen (index old more tables) = seen
look w seen (query tables rank) = seen
look w seen (separate i a b xs tables) = seen

unfoldable pub seen_after : World → (seen : ℕ → List ℕ) → List Call → ℕ → List ℕ
seen_after w seen [] = seen
seen_after w seen (c ∷ cs) = seen_after (step w c).world (look w seen c) cs
