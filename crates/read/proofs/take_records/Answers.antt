use Rattle.std.proofs.Common.{rules, ◌∙◌}
use Rattle.read.proofs.Records.{taken-turn, taken-end}
use Rattle.read.proofs.take_records.Goals as goal

pub loop-rank-preserved : goal.loop-rank-preserved
loop-rank-preserved c = (
  search rules,
  taken-turn c.requires.1 c.loop-rank.auto.parents (c.loop-rank.invariant.0 ∙ c.loop-rank.auto.parents) c.loop-rank.invariant.1 c.loop-rank-test.true c.word_at.ensures c.word_at-in-loop-rank.ensures,
)

pub returns : goal.returns
returns c = taken-end c.requires.1 c.loop-rank.auto.parents (c.loop-rank.invariant.0 ∙ c.loop-rank.auto.parents) c.loop-rank.invariant.1 c.loop-rank-test.false
