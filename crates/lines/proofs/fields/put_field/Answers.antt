use Rattle.decimal.proofs.Runs.{put_on}
use Rattle.lines.proofs.fields.put_field.Goals as goal

pub returns : goal.returns
returns c = put_on c.put_number-end.ensures c.put_byte.ensures
