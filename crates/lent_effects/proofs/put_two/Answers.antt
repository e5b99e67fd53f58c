-- `lent_effects::put_two` meets its contract: two writes. Assumes nothing.
use Rattle.lent_effects.proofs.put_two.Goals as goal

pub returns : goal.returns
returns c = cc
