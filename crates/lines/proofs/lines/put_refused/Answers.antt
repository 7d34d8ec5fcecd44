use Rattle.decimal.specs.Ascii.{ascii}
use Rattle.decimal.proofs.Runs.{put_on}
use Rattle.lines.specs.Line.{newlined}
use Rattle.lines.specs.Lines.{refused_text}
use Rattle.lines.proofs.Pieces.{put_as}
use Rattle.lines.proofs.lines.put_refused.Goals as goal

pub returns : goal.returns
unfolding refused_text newlined ascii
returns c = put_on c.put_text-end.ensures (put_as _ c.number.ensures c.put_entry.ensures.0)
