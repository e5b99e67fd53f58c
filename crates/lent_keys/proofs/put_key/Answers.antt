-- `lent_keys::put_key` meets its contract: the head, the count and the identifiers. Assumes nothing.
use Rattle.lent_keys.proofs.Laws.KeyRecord.{writes_key}
use Rattle.lent_keys.proofs.put_key.Goals as goal

pub returns : goal.returns
returns c = writes_key _ _ _ _ _ _ _ _ c.captures-identifiers.result c.captures-identifiers.ensures c.put_head.ensures c.put_field.ensures c.put_identifiers.ensures
