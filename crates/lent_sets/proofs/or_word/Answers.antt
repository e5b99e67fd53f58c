-- `lent_sets::or_word` meets its contract: a total read and a total write. Assumes nothing.
use Rattle.lent_sets.proofs.or_word.Goals as goal

pub returns : goal.returns
returns c = cc
