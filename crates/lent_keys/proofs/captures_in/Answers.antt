use Rattle.lent_keys.proofs.Laws.KeyRecord.{places_listed}
use Rattle.lent_keys.proofs.captures_in.Goals as goal

pub returns : goal.returns
returns c = places_listed _ _ _ 17 _ c.field.ensures
