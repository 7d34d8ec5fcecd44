use native.Mathlib.Omega.{arith}
use Rattle.decimal.proofs.Runs.{put_part}
use Rattle.decimal.proofs.put_text.Goals as goal

pub returns : goal.returns
returns c = put_part c.requires c.copy_from_slice.ensures.after (omega arith)
