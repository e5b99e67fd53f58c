use Rattle.refuse_records.proofs.Laws.Accepting.{identifiers_are}
use Rattle.refuse_context.proofs.identifiers_class.Goals as goal

pub returns : goal.returns
returns c = identifiers_are _ _ _ _ _ c.identifier_records-records.ensures c.stray_after.ensures c.lower.ensures
