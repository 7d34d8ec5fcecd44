use native.Mathlib.Omega.{arith}
use Rattle.decimal.specs.Ascii.{ascii}
use Rattle.decimal.proofs.Runs.{put_on}
use Rattle.lines.specs.Line.{spaced, newlined, line_text}
use Rattle.lines.proofs.fields.put_line.Goals as goal

pub returns : goal.returns
unfolding line_text spaced newlined ascii
returns c = (
  put_on (put_on (put_on (put_on
      (put_on (put_on (put_on c.put_entry-end.ensures.0 c.put_entry-end-2.ensures.0) c.put_parent-end.ensures.0) c.put_entry-end-3.ensures.0)
      c.put_entry-end-4.ensures.0) c.put_entry-end-5.ensures.0) c.put_entry-end-6.ensures.0) c.put_entry.ensures.0,
  omega (
    arith,
    c.put_entry-end.ensures.1,
    c.put_entry-end-2.ensures.1,
    c.put_parent-end.ensures.1,
    c.put_entry-end-3.ensures.1,
    c.put_entry-end-4.ensures.1,
    c.put_entry-end-5.ensures.1,
    c.put_entry-end-6.ensures.1,
    c.put_entry.ensures.1,
  ),
)
