use Rattle.std.proofs.Common.{rules}
use Rattle.state_ops.specs.Lists.{own_sets}
use Rattle.state_ops.proofs.Laws.List.{own_past}
use Rattle.state_assign.proofs.define_own.Goals as goal

pub returns-then-from-lt512 : goal.returns-then-from-lt512
unfolding own_sets
returns-then-from-lt512 c = c.define.ensures

pub returns-else-from-lt512 : goal.returns-else-from-lt512
returns-else-from-lt512 c = own_past _ _ _ _ (search rules) c.define-else-from-lt512.ensures
