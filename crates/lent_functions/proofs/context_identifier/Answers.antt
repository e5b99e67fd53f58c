use Rattle.std.proofs.Common.{refl}
use Rattle.lent_context.proofs.Laws.Code.{word_is}
use Rattle.lent_functions.proofs.context_identifier.Goals as goal

pub returns : goal.returns
returns c = word_is _ _ _ _ _ _ _ refl refl c.field.ensures
