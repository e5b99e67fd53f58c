use Rattle.std.proofs.Common.{◌∙◌}
use Rattle.effect_walk.proofs.Laws.Walk.{opens_not, opens_is}
use Rattle.effect_walk.proofs.opens.Goals as goal

pub returns-then-is_defined : goal.returns-then-is_defined
returns-then-is_defined c = opens_is _ _ _ _ _ _ c.is_defined.ensures c.if-is_defined.true c.kind_of.ensures c.is_freezable.ensures

pub returns-else-is_defined : goal.returns-else-is_defined
returns-else-is_defined c = c.if-is_defined.false ∙ opens_not _ _ _ _ c.is_defined.ensures c.if-is_defined.false
