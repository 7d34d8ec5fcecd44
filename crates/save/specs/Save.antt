-- "Save .. link files." Document 01, Files: "The bytes lent to a save are a table of 8 × n bytes: another length is 2, not 6."
-- Assumes nothing.
use Rattle.std.specs.Prelude.{List, [], ◌∷◌, ℕ, ◌*◌, length}
use Rattle.game.specs.Net.{Net}
use Rattle.refusal.specs.Refusal.{given, first, bad_count, wrong_length}
use Rattle.refusal.specs.Outcome.{Done, done}
use Rattle.net.specs.Damage.{damaged}
use Rattle.records.specs.LinkFile.{link_file}

-- Save, of a net into a table of m bytes: 1, 2, 30 in this order
unfoldable pub save_refusal : Net → ℕ → ℕ
save_refusal net m =
    first
    (given (bad_count (length net.parents)) 1
    ∷ given (wrong_length (length net.weights) (length net.parents)) 2
    ∷ given (wrong_length m (8 * length net.parents)) 2
    ∷ given (damaged net) 30
    ∷ [])

-- the bytes after a save: the link file, or as they were
unfoldable pub save_outcome : Net → List ℕ → Done (List ℕ)
save_outcome net bytes = done (save_refusal net (length bytes)) bytes (link_file net)
