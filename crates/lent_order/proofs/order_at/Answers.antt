use Rattle.std.proofs.Common.{refl}
use Rattle.lent_order.proofs.Laws.Insert.{order_read}
use Rattle.lent_order.proofs.order_at.Goals as goal

pub returns : goal.returns
returns c = order_read _ _ _ _ _ refl c.field.ensures
