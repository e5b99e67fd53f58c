use Rattle.refuse_records.proofs.Laws.Accepting.{effects_are}
use Rattle.refuse_context.proofs.effects_class.Goals as goal

pub returns : goal.returns
returns c = effects_are _ _ _ _ _ _ _ _ c.effect_records-records.ensures c.stray_after-after.ensures c.order_class.ensures c.lower.ensures c.lower-2.ensures
