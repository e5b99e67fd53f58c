use Rattle.std.proofs.Common.{refl}
use Rattle.lent_context.proofs.Laws.Code.{count_is}
use Rattle.lent_context.proofs.context_count.Goals as goal

pub returns : goal.returns
returns c = count_is _ _ _ _ _ _ refl c.field.ensures
