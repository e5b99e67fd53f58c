-- `lent_effect_write::put_create` meets its contract: four writes. Assumes nothing.
use Rattle.lent_effects.proofs.Laws.EffectWrites.{writes_create}
use Rattle.lent_effect_write.proofs.put_create.Goals as goal

pub returns : goal.returns
returns c =
    writes_create _ _ _ _ _ _ _ _ _ _ _ c.put_field.ensures c.put_place.ensures c.kind_word.ensures c.put_field-2.ensures c.put_field-3.ensures
