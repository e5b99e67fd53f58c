use Rattle.state_ops.proofs.Laws.List.{assign_defined, assign_undefined}
use Rattle.state_assign.proofs.assign.Goals as goal

pub returns-then-is_defined : goal.returns-then-is_defined
returns-then-is_defined c = assign_defined _ _ _ _ _ _ c.is_defined.ensures c.if-is_defined.true c.copy_set.ensures

pub returns-else-is_defined : goal.returns-else-is_defined
returns-else-is_defined c = assign_undefined _ _ _ _ _ _ _ c.is_defined.ensures c.if-is_defined.false c.insert_own.ensures c.define_own.ensures
