use Rattle.std.proofs.Common.{refl}
use Rattle.lent_context.proofs.Laws.Code.{name_is}
use Rattle.lent_context.proofs.name_of.Goals as goal

pub returns : goal.returns
returns c = name_is _ _ _ _ refl c.field.ensures
