use Rattle.effect_parts.proofs.Laws.Part.{written_not, written_is}
use Rattle.effect_parts.proofs.is_written.Goals as goal

pub returns-then-is_defined : goal.returns-then-is_defined
returns-then-is_defined c = written_is _ _ _ _ _ _ _ _ _ c.is_defined.ensures c.if-is_defined.true c.peek.ensures c.is_writable.ensures

pub returns-else-is_defined : goal.returns-else-is_defined
returns-else-is_defined c = rw c.if-is_defined.false (written_not _ _ _ _ _ _ _ c.is_defined.ensures c.if-is_defined.false)
