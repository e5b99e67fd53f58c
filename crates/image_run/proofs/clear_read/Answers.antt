-- `image_run::clear_read` meets its contract: each is cleared. Assumes nothing.
use Rattle.lent_copies.proofs.Laws.Copy.{cleared}
use Rattle.image_run.proofs.clear_read.Goals as goal

pub returns-clause-words : goal.returns-clause-words
returns-clause-words c = cleared _ _ (c.fill.ensures.after (λ y h. h))

pub returns-clause-candidates : goal.returns-clause-candidates
returns-clause-candidates c = cleared _ _ (c.fill-2.ensures.after (λ y h. h))
