use Rattle.refuse_records.proofs.Laws.Accepting.{diagnostics_are}
use Rattle.refuse_context.proofs.diagnostics_class.Goals as goal

pub returns : goal.returns
returns c = diagnostics_are _ _ _ _ _ c.diagnostic_records-records.ensures c.unused_from.ensures c.lower.ensures
