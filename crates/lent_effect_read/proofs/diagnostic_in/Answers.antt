-- `lent_effect_read::diagnostic_in` meets its contract: two words. Assumes nothing.
use Rattle.lent_effect_read.proofs.diagnostic_in.Goals as goal

pub returns : goal.returns
returns c = cc
