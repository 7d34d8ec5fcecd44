use Rattle.std.proofs.Common.{rules}
use Rattle.game.proofs.Edges.{edges-length}
use Rattle.report_refusal.proofs.Told.{wrong-told}
use Rattle.report_refusal.proofs.wrong_lengths.Goals as goal

pub overflow_add-n : goal.overflow_add-n
overflow_add-n c =
    search (rules, c.count-m.ensures, edges-length c.args.edges.now)

pub returns : goal.returns
returns c =
    let a = c.args in
    wrong-told a.parents.now a.weights.now a.edges.now a.carried a.top a.block a.block_loads a.edge_blocks a.reach a.block_count a.edges_taken a.compared_parents
    a.compared_weights a.ends a.jump a.lower _ c.count-m.ensures c.wrong_tables.ensures c.wrong_figures.ensures c.wrong_compared.ensures c.not_whole.ensures
