-- ".. read link files." Document 01's 6 is "a link file not n records"; its 30 is "not one that starting or reading overwrites".
-- Assumes nothing.
use Rattle.std.specs.Prelude.{not, List, [], ◌∷◌, ℕ, ◌*◌, ltb, length}
use Rattle.game.specs.Tree.{sound}
use Rattle.game.specs.Net.{Net, total}
use Rattle.refusal.specs.Limits.{max_total}
use Rattle.refusal.specs.Refusal.{given, first, bad_count, wrong_length}
use Rattle.refusal.specs.Outcome.{Done, done}
use Rattle.records.specs.LinkFile.{file_net}

-- 7: "a link record's parent is neither absent nor in rank+1 to n−1"; 20: "the total after .. reading .. is above 16,000,000",
-- which Paper 6 of document 02 makes 96,000,000
unfoldable pub unfit : Net → ℕ
unfit net = first (given (not (sound net.parents)) 7 ∷ given (ltb max_total (total net)) 20 ∷ [])

-- Read, of a file into tables of n parents and m weights: 1, 2, 6, 7, 20 in this order. Never 30: what the tables hold is
-- overwritten and not looked at
unfoldable pub read_refusal : ℕ → ℕ → List ℕ → ℕ
read_refusal n m bytes =
    first
    (given (bad_count n) 1
    ∷ given (wrong_length m n) 2
    ∷ given (wrong_length (length bytes) (8 * n)) 6
    ∷ unfit (file_net bytes)
    ∷ [])

-- the net after a reading: the file's, or as it was
unfoldable pub read_outcome : Net → List ℕ → Done Net
read_outcome net bytes = done (read_refusal (length net.parents) (length net.weights) bytes) net (file_net bytes)
