use Rattle.std.proofs.Common.{refl}
use Rattle.lent_context.proofs.Laws.Code.{tracked_is}
use Rattle.lent_context.proofs.has_tracked_side_effect.Goals as goal

pub returns : goal.returns
returns c = tracked_is _ _ _ _ refl c.field.ensures
