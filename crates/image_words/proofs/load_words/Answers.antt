-- `image_words::load_words` meets its contract: the words passed are the image's. Assumes nothing.
use native.Mathlib.Omega.{arith}
use Rattle.image_words.proofs.Laws.Load.{load_end}
use Rattle.image_words.proofs.load_words.Goals as goal

pub returns : goal.returns
returns c = load_end _ c.args.words.now c.loop-k.words c.loop-k.k c.loop-k.auto.words c.loop-k.invariant (omega arith)
