use mathlib.Core.Path.{refl, ◌∙◌}
use Rattle.block_count.proofs.Written.{count-ready, sweep-ready, all-written}
use Rattle.block_count.proofs.write_block_counts.Goals as goal

pub count_buckets-requires : goal.count_buckets-requires
count_buckets-requires c = count-ready c.requires refl

pub settle-requires : goal.settle-requires
settle-requires c =
    let k = c.count_buckets.auto in sweep-ready c.requires c.count_buckets.ensures k.edges_taken k.pending

pub returns : goal.returns
returns c =
    let k = c.count_buckets.auto in let m = c.settle.auto in all-written c.requires c.count_buckets.ensures k.block_count (m.edges_taken ∙ k.edges_taken) c.settle.ensures
