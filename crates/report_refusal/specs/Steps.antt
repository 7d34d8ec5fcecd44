-- What the lengths of a report's tables tell, one by one. No contract of a call cites this.
-- Assumes nothing.
use Rattle.std.specs.Prelude.{Bool, ◌||◌, List, ℕ, ◌+◌, length}
use Rattle.game.specs.Edge.{edges}
use Rattle.refusal.specs.Refusal.{wrong_length, not_whole}

-- whether the net's table w, one of the tables that are lent, given by their lengths, or the list xs is not as long as p and k ask
unfoldable pub wrong_lengths : (k : ℕ) (p w xs : List ℕ) (c t b l eb re bc ta cp cw e j lo : ℕ) → Bool
wrong_lengths k p w xs c t b l eb re bc ta cp cw e j lo =
    let n : ℕ = length p in
    let m : ℕ = length (edges xs) in
    (wrong_length (length w) n || wrong_length c n || wrong_length t n || wrong_length b n || wrong_length l k)
    || (wrong_length eb m || wrong_length re n || wrong_length bc n || wrong_length ta n)
    || (wrong_length cp n || wrong_length cw n || (wrong_length e n || wrong_length j n || wrong_length lo (n + m)))
    || not_whole xs
