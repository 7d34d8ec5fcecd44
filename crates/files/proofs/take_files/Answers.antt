use native.Mathlib.Omega.{arith}
use Rattle.files.specs.Files.{order, edge_list, limit, blocks}
use Rattle.files.proofs.Loading.{sizes, decided}
use Rattle.files.proofs.take_files.Goals as goal

pub word_at-requires : goal.word_at-requires
word_at-requires c = omega (arith, (sizes _ c.requires.passed).want)

pub word_at-requires-2 : goal.word_at-requires-2
word_at-requires-2 c = omega (arith, (sizes _ c.requires.passed).want)

pub content_refusal-requires : goal.content_refusal-requires
content_refusal-requires c =
    omega (arith, (sizes _ c.requires.passed).vertices, c.requires.vertices, c.take_words.auto.table)

pub returns : goal.returns
unfolding order edge_list limit blocks
returns c =
    decided _ c.take_words.ensures c.take_words-2.ensures c.word_at.ensures c.word_at-2.ensures c.content_refusal.ensures
