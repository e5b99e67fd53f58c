-- `lent_sets::row_word` meets its contract: a total read at 16 i + w. Assumes nothing.
use Rattle.lent_sets.specs.Rows.{row_word}
use Rattle.lent_sets.proofs.row_word.Goals as goal

pub returns : goal.returns
unfolding row_word
returns c = cc
