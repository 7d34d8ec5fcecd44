use Rattle.lines.specs.Lines.{rank_text}
use Rattle.lines.proofs.Lined.{Lined}
use Rattle.lines.proofs.lines.put_lines.Given as goal

abbrev pub invariant-loop-x : goal.invariant-loop-x
invariant-loop-x l =
    Lined (rank_text l.order l.parents l.weights l.reach l.top l.block l.block_count) l.initial.text l.text l.x l.end
