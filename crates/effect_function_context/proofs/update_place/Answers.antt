use Rattle.effect_function_context.proofs.Laws.Function.{update_stays, update_reads}
use Rattle.effect_function_context.proofs.update_place.Goals as goal

pub returns-then-becomes_read-clause-does : goal.returns-then-becomes_read-clause-does
returns-then-becomes_read-clause-does c = update_reads _ _ _ _ _ _ _ _ c.becomes_read.ensures _ c.if-becomes_read.true c.make_read.ensures.does

pub returns-else-becomes_read-clause-does : goal.returns-else-becomes_read-clause-does
returns-else-becomes_read-clause-does c = update_stays _ _ _ _ _ _ _ _ c.becomes_read.ensures c.if-becomes_read.false
