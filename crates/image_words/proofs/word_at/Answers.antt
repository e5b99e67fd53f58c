-- `image_words::word_at` meets its contract: past the last whole word, or its four bytes. Assumes nothing.
use native.Mathlib.Omega.{arith}
use Rattle.image_words.proofs.Laws.Word.{word_out, word_in, four_at}
use Rattle.image_words.proofs.word_at.Goals as goal

pub returns-then-k-bytes : goal.returns-then-k-bytes
returns-then-k-bytes c = word_out _ _ c.if-k-bytes.true

pub returns : goal.returns
unfolding four_at
returns c = let w = word_in c.args.bytes.now c.args.k c.if-k-bytes.false in omega arith
