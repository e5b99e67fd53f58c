-- `lent_keys::head_in` meets its contract: seven reads. Assumes nothing.
use Rattle.lent_keys.proofs.Laws.KeyRecord.{reads_head}
use Rattle.lent_keys.proofs.head_in.Goals as goal

pub returns : goal.returns
returns c =
    reads_head _ _ _ _ _ _ _ _ _ _ c.field-code.ensures c.option_in-from.ensures c.option_in-into.ensures c.field-kind.ensures c.field-reason.ensures c.option_in-function.ensures c.field-identity.ensures
