-- `lent_effects::put_one` meets its contract: two writes. Assumes nothing.
use Rattle.lent_effects.proofs.put_one.Goals as goal

pub returns : goal.returns
returns c = cc
