-- `lent_effect_write::put_reported` meets its contract: three writes. Assumes nothing.
use Rattle.lent_effect_write.proofs.put_reported.Goals as goal

pub returns : goal.returns
returns c = cc
