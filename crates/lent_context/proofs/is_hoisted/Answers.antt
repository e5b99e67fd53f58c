use Rattle.std.proofs.Common.{refl}
use Rattle.lent_context.proofs.Laws.Code.{hoisted_is}
use Rattle.lent_context.proofs.is_hoisted.Goals as goal

pub returns : goal.returns
returns c = hoisted_is _ _ _ _ refl c.field.ensures
