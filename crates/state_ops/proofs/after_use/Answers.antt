use Rattle.state_ops.proofs.Laws.Use.{use_defined, use_again, use_first}
use Rattle.state_ops.proofs.after_use.Goals as goal

pub returns-then-is_defined : goal.returns-then-is_defined
returns-then-is_defined c = use_defined _ _ _ _ _ c.is_defined.ensures c.if-is_defined.true

pub returns-then-session-ne0 : goal.returns-then-session-ne0
returns-then-session-ne0 c = use_again _ _ _ _ _ c.is_defined.ensures c.if-is_defined.false c.if-session-ne0.true

pub returns : goal.returns
returns c = use_first _ _ _ _ _ _ c.is_defined.ensures c.if-is_defined.false c.if-session-ne0.false c.access_of-access.ensures
