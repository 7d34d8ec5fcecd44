-- The files of a run, as numbers.
--
-- Document 01: "`blocks` reads `marks.ord`, `ties.rec` and `want.rec` (one record: B, k)." "Order file: 4 bytes a mark." "A file that
-- cannot be opened counts as empty; n is the number of whole records in `marks.ord`." Document 02, Paper 6: "the tie file record has 12
-- bytes". A mark is a vertex here, B the limit and k the number of blocks. Part of a record at the end of a file counts for nothing (its
-- run is refused).
-- Assumes nothing.
use Rattle.std.specs.Prelude.{List, ℕ, ◌+◌, ◌*◌, ◌/◌, length, take}
use Rattle.words.specs.Word.{word_at, words}

-- the bytes of `marks.ord`, `ties.rec` and `want.rec`
pub record Files : Type 0 where
  pub marks : List ℕ
  pub ties : List ℕ
  pub want : List ℕ

abbrev pub files : (marks ties want : List ℕ) → Files
files m t w = record { marks = m; ties = t; want = w }

-- n and m: the whole records of the first two
unfoldable pub vertex_count : Files → ℕ
vertex_count f = length f.marks / 4

unfoldable pub edge_count : Files → ℕ
edge_count f = length f.ties / 12

-- the order, and the flat list of ties by vertex number
unfoldable pub order : Files → List ℕ
order f = words f.marks

unfoldable pub edge_list : Files → List ℕ
edge_list f = words f.ties

-- B and k
unfoldable pub limit : Files → ℕ
limit f = word_at f.want 0

unfoldable pub blocks : Files → ℕ
blocks f = word_at f.want 4

-- "Its tables hold 1,000 marks and 4,000 ties"
abbrev pub vertex_capacity : ℕ
vertex_capacity = 1_000

abbrev pub edge_capacity : ℕ
edge_capacity = 4_000

-- The fronts of the files, each longer by a record or by a byte than what a run takes, so that a file that is too long is seen to be.
-- The program `blocks` reads so much of each file, and the law `run-front` says that it prints the text of the whole files.
abbrev pub marks_front : ℕ
marks_front = 4 * vertex_capacity + 4

abbrev pub ties_front : ℕ
ties_front = 12 * edge_capacity + 12

abbrev pub want_front : ℕ
want_front = 9

unfoldable pub front : Files → Files
front f = files (take marks_front f.marks) (take ties_front f.ties) (take want_front f.want)
