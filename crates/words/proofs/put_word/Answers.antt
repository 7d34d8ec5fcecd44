use Rattle.std.proofs.Common.{append_assoc, ◌≡◌, ◌+◌, length, ◌-◌, arith}
use Rattle.std.proofs.lemmas.List.Edits.{sets-eq}
use Rattle.std.proofs.lemmas.List.{drop-drop}
use Rattle.words.proofs.put_word.Goals as goal

pub returns : goal.returns
returns c =
    let k : c.args.at + 4 - c.args.at ≡ length c.args.four = omega arith in
    rw (sets-eq c.args.four c.args.bytes.now c.args.at (omega arith), c.copy_from_slice.ensures.after, k, append_assoc, drop-drop)
