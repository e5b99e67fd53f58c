-- `lent_key_of::one_key` meets its contract: the key of one place. Assumes nothing.
use Rattle.lent_keys.proofs.Laws.EffectKey.{one_is}
use Rattle.lent_key_of.proofs.one_key.Goals as goal

pub returns : goal.returns
returns c = one_is c.args.code c.args.p c.args.reason c.args.identity
