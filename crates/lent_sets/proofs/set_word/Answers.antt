-- `lent_sets::set_word` meets its contract: a total write at 16 i + w. Assumes nothing.
use Rattle.lent_sets.specs.Rows.{set_word}
use Rattle.lent_sets.proofs.set_word.Goals as goal

pub returns : goal.returns
unfolding set_word
returns c = cc
