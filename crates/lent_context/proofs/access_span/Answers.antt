use Rattle.std.proofs.Common.{refl}
use Rattle.lent_context.proofs.Laws.Code.{access_is}
use Rattle.lent_context.proofs.access_span.Goals as goal

pub returns : goal.returns
returns c = access_is _ _ _ _ _ _ refl c.field-start.ensures refl c.field-end.ensures
