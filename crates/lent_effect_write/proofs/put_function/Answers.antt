-- `lent_effect_write::put_function` meets its contract: four writes, then the captures. Assumes nothing.
use Rattle.lent_effects.proofs.Laws.EffectWrites.{writes_function}
use Rattle.lent_effect_write.proofs.put_function.Goals as goal

pub returns : goal.returns
returns c =
    writes_function _ _ _ _ _ _ _ _ _ _ _ _ c.put_field.ensures c.put_place.ensures c.put_field-2.ensures c.field.ensures c.put_field-3.ensures c.put_captures.ensures
