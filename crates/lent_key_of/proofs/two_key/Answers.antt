-- `lent_key_of::two_key` meets its contract: the key of two places. Assumes nothing.
use Rattle.lent_keys.proofs.Laws.EffectKey.{two_is}
use Rattle.lent_key_of.proofs.two_key.Goals as goal

pub returns : goal.returns
returns c = two_is c.args.code c.args.from c.args.into
