use Rattle.decimal.specs.Ascii.{ascii}
use Rattle.decimal.proofs.Runs.{put_on}
use Rattle.lines.specs.Line.{spaced}
use Rattle.lines.specs.Lines.{totals_text}
use Rattle.lines.proofs.lines.put_totals.Goals as goal

pub returns : goal.returns
unfolding totals_text spaced ascii
returns c =
    put_on (put_on (put_on (put_on c.put_text-end.ensures c.put_figure-end.ensures.0) c.put_text-end-2.ensures) c.put_figure-end-2.ensures.0) c.put_share.ensures
