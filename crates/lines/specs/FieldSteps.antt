-- The room that fields and lines take. A run's own promise does not speak of it.
-- Assumes nothing.
use Rattle.std.specs.Prelude.{ℕ, ◌*◌}

-- the room of a number of 32 bits, ten digits at most, and of the byte behind it
abbrev pub entry_room : ℕ
entry_room = 11

-- the same of a number of 64 bits, twenty digits at most
abbrev pub figure_room : ℕ
figure_room = 21

-- the room of the line of a rank, eight numbers of 32 bits
abbrev pub line_room : ℕ
line_room = 8 * entry_room
