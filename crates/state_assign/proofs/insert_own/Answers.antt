use Rattle.std.proofs.Common.{refl}
use Rattle.state_ops.proofs.Laws.List.{insert_none, insert_some}
use Rattle.state_assign.proofs.insert_own.Goals as goal

pub returns-then-is_none : goal.returns-then-is_none
returns-then-is_none c = insert_none _ _ _ _ _ c.value_at.ensures c.if-is_none.ensures refl c.put_value.ensures

pub returns-else-is_none : goal.returns-else-is_none
returns-else-is_none c = insert_some _ _ _ c.value_at.ensures c.if-is_none.ensures
