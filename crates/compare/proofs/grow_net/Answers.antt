use Rattle.compare.proofs.Compared.{net-sweepable, net-fileable, net-growable, net-grown}
use Rattle.compare.proofs.grow_net.Goals as goal

pub sweep-requires : goal.sweep-requires
sweep-requires c =
    net-sweepable c.requires (c.fill-3.ensures.after (λ y e. e)) (c.fill-2.ensures.after (λ y e. e))

pub file_counted-requires : goal.file_counted-requires
file_counted-requires c =
    let f = net-fileable c.requires (c.fill-3.ensures.after (λ y e. e)) (c.fill-2.ensures.after (λ y e. e)) c.sweep.ensures in
    record {
      ends_value = f.0;
      edges_value = f.1;
      edges_in_bounds = f.2;
      lower_len_bound = f.3;
    }

pub grow_kept-requires : goal.grow_kept-requires
grow_kept-requires c =
    net-growable c.requires (c.fill-3.ensures.after (λ y e. e)) (c.fill-2.ensures.after (λ y e. e)) c.sweep.ensures (c.fill.ensures.after (λ y e. e)) c.file_counted.ensures

pub returns : goal.returns
returns c =
    let g = c.grow_kept.ensures in
    net-grown c.requires (c.fill-3.ensures.after (λ y e. e)) (c.fill-2.ensures.after (λ y e. e)) c.sweep.ensures (c.fill.ensures.after (λ y e. e)) c.file_counted.ensures g.grown g.kept
