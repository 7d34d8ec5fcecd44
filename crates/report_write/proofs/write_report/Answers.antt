use native.Mathlib.Omega.{arith}
use mathlib.Core.Path.{refl, ◌∙◌}
use Rattle.report_write.proofs.Written.{lower-countable, lower-counted, block-proper, block-countable, loads-long, summable, all-answered}
use Rattle.report_write.proofs.write_report.Goals as goal

pub count_lower-requires : goal.count_lower-requires
count_lower-requires c =
    let (q, taken, jump) = c.requires in
    (_, lower-countable q taken)

pub divide_and_reach-requires : goal.divide_and_reach-requires
divide_and_reach-requires c =
    (_, c.requires.0, lower-counted c.requires.0 c.count_lower.ensures)

pub write_edge_blocks-requires : goal.write_edge_blocks-requires
write_edge_blocks-requires c =
    let q = c.requires.0 in
    record {
      proper = block-proper q (c.divide_and_reach.ensures.outcome _ q (lower-counted q c.count_lower.ensures));
      edge_blocks_len = c.divide_and_reach.auto.edge_blocks ∙ q.edge_blocks;
    }

pub overflow_cast-loads : goal.overflow_cast-loads
overflow_cast-loads c =
    let q = c.requires.0 in
    omega (arith, loads-long q (c.divide_and_reach.ensures.outcome _ q (lower-counted q c.count_lower.ensures)), q.division.few)

pub write_block_counts-requires : goal.write_block_counts-requires
write_block_counts-requires c =
    let q = c.requires.0 in
    block-countable q (c.divide_and_reach.ensures.outcome _ q (lower-counted q c.count_lower.ensures))
    c.divide_and_reach.auto.block_count (lower-counted q c.count_lower.ensures) c.requires.2

pub clear-requires : goal.clear-requires
clear-requires c = (omega arith, refl)

pub sum_up-requires : goal.sum_up-requires
sum_up-requires c =
    let q = c.requires.0 in
    summable q (c.divide_and_reach.ensures.outcome _ q (lower-counted q c.count_lower.ensures)) (c.write_block_counts.auto.block_count ∙ c.divide_and_reach.auto.block_count ∙ q.counts)

pub returns-clause-outcome : goal.returns-clause-outcome
returns-clause-outcome c =
    let q = c.requires.0 in
    all-answered q (c.divide_and_reach.ensures.outcome _ q (lower-counted q c.count_lower.ensures)) _ c.write_edge_blocks.ensures c.write_block_counts.ensures
    c.write_block_counts.auto.pending c.clear.ensures c.sum_up.ensures
