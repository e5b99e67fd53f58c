use Rattle.std.proofs.Common.{refl}
use Rattle.lent_context.proofs.Laws.Code.{ref_is}
use Rattle.lent_context.proofs.is_ref.Goals as goal

pub returns : goal.returns
returns c = ref_is _ _ _ _ refl c.field.ensures
