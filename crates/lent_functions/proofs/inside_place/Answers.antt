use Rattle.std.proofs.Common.{refl}
use Rattle.lent_context.proofs.Laws.Code.{place_is}
use Rattle.lent_functions.proofs.inside_place.Goals as goal

pub returns : goal.returns
returns c = place_is _ _ _ _ _ _ _ refl c.place_in.ensures
