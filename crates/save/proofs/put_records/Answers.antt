use Rattle.std.proofs.Common.{rules}
use mathlib.Core.Path.{sym, ◌∙◌}
use Rattle.save.proofs.Records.{save-turn, save-end}
use Rattle.save.proofs.put_records.Goals as goal

pub loop-rank-preserved : goal.loop-rank-preserved
loop-rank-preserved c = (search rules, save-turn _ _ _ _ _ c.requires.0 c.loop-rank.invariant.0 c.loop-rank-test.true c.put_record.ensures ∙ c.loop-rank.invariant.1)

pub returns : goal.returns
returns c = sym (save-end _ _ _ _ c.loop-rank.invariant.0 c.loop-rank-test.false) ∙ c.loop-rank.invariant.1
