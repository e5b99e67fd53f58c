use Rattle.refuse_records.proofs.Laws.Accepting.{functions_are}
use Rattle.refuse_context.proofs.functions_class.Goals as goal

pub returns : goal.returns
returns c = functions_are _ _ _ _ _ _ _ _ c.function_records-records.ensures c.stray_after-after.ensures c.stray_after.ensures c.lower.ensures c.lower-2.ensures
