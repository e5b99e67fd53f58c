use Rattle.effect_parts.proofs.Laws.Part.{begin_again, begin_first}
use Rattle.effect_parts.proofs.begin.Goals as goal

pub returns-then-is_marked-clause-does : goal.returns-then-is_marked-clause-does
returns-then-is_marked-clause-does c = begin_again _ _ _ _ _ _ _ c.is_marked.ensures c.if-is_marked.true

pub returns-clause-does : goal.returns-clause-does
returns-clause-does c = begin_first _ _ _ _ _ _ _ c.is_marked.ensures _ c.if-is_marked.false c.mark-world.ensures
