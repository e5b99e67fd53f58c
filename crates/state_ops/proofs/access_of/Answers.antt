use Rattle.lent_work.proofs.Laws.Access.{access_in, access_past}
use Rattle.state_ops.proofs.access_of.Goals as goal

pub returns-then-i-lt512 : goal.returns-then-i-lt512
returns-then-i-lt512 c = access_in _ c.if-i-lt512.true

pub returns-else-i-lt512 : goal.returns-else-i-lt512
returns-else-i-lt512 c = access_past _ c.if-i-lt512.false
