use Rattle.refuse_records.proofs.Laws.Accepting.{keys_are}
use Rattle.refuse_context.proofs.keys_class.Goals as goal

pub returns : goal.returns
returns c = keys_are _ _ _ _ _ _ _ _ _ _ c.handed_out-m.ensures c.key_records-records.ensures c.stray_after-after.ensures c.key_order_class.ensures c.lower.ensures c.lower-2.ensures
