use Rattle.report_write.proofs.Written.{fitting-kept, own-counts}
use Rattle.report_write.proofs.divide_and_reach.Goals as goal

pub reaches-requires : goal.reaches-requires
reaches-requires c =
    let (es, q, counted) = c.requires in
    record {
      given = (es, own-counts q counted, q.filed, q.edge_blocks);
      reach_len = (q.reaches, q.division.carried, q.division.top, q.division.block, q.counts);
    }

pub cut_and_pack-requires : goal.cut_and_pack-requires
cut_and_pack-requires c =
    let (es, q, counted) = c.requires in
    let k = c.reaches.auto in
    record {
      divisible = q.divisible;
      fitting = fitting-kept q.division k.ends k.ancestor k.previous;
    }

pub returns-clause-outcome : goal.returns-clause-outcome
returns-clause-outcome c =
    λ es q counted. record { divided_so = c.cut_and_pack.ensures.outcome; reached = c.reaches.ensures es (own-counts q counted) q.filed }
