use Rattle.decimal.specs.Ascii.{ascii}
use Rattle.decimal.proofs.Runs.{put_on}
use Rattle.lines.specs.Line.{spaced, newlined}
use Rattle.lines.specs.Lines.{share_text}
use Rattle.lines.proofs.Pieces.{put_as}
use Rattle.lines.proofs.lines.put_share.Goals as goal

pub returns : goal.returns
unfolding share_text spaced newlined ascii
returns c =
    put_on (put_on c.put_text-end.ensures (put_as _ c.quotient.ensures c.put_entry-end.ensures.0)) (put_as _ c.remainder.ensures c.put_entry.ensures.0)
