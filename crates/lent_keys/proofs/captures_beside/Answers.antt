use Rattle.lent_keys.proofs.Laws.KeyRecord.{places_listed}
use Rattle.lent_keys.proofs.captures_beside.Goals as goal

pub returns : goal.returns
returns c = places_listed _ _ 0 0 _ c.field.ensures
