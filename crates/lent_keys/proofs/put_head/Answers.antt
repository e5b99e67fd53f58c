-- `lent_keys::put_head` meets its contract: eight writes. Assumes nothing.
use Rattle.lent_keys.proofs.Laws.KeyRecord.{writes_head}
use Rattle.lent_keys.proofs.put_head.Goals as goal

pub returns : goal.returns
returns c =
    writes_head _ _ _ _ _ _ _ _ _ _ _ c.args.key c.put_field.ensures c.put_field-2.ensures c.put_option.ensures c.put_option-2.ensures c.put_field-3.ensures c.put_field-4.ensures c.put_option-3.ensures c.put_field-5.ensures
